-- A header's default, which its derive gives field by field.
use Rattle.std.proofs.Common.{◌≡◌, sym, ◌∙◌, arith}
use Rattle.std.specs.Array.{AllOfLen}
use Rattle.std.proofs.lemmas.Grind.{same_number_lists}
use Rattle.std.proofs.lemmas.List.{get_or-replicate}
use Rattle.wire_rules.specs.declared.Header.{Header}
use Rattle.wire_rules.specs.Header.{no_header}

-- it is the header of zeros
pub zeros : (h : Header)
    → (h.rate ≡ 0) × ((h.frames ≡ 0) × ((h.channels ≡ 0) × ((h.format ≡ 0) × (AllOfLen (λ x. x ≡ 0) h.name 16 × (h.counter ≡ 0)))))
    → h ≡ no_header
zeros h (rate, (frames, (channels, (format, (name, counter))))) =
    let n : h.name ≡ no_header.name =
    same_number_lists h.name no_header.name name.long
    (λ k l. name.at k 0 (omega (arith, name.long)) ∙ sym (get_or-replicate 16 k 0 0 (omega (arith, name.long)))) in
    rw (rate, frames, channels, format, n, counter)
