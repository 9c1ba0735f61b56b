-- An array's default is so many zeros.
use Rattle.std.proofs.Common.{◌≡◌, ℕ, ◌<◌, false, List, length, get_or, sym, ◌∙◌, arith}
use Rattle.std.proofs.Math.ListN.{replicate, length-replicate}
use Rattle.std.proofs.lemmas.List.{ext_get_or}
use Rattle.lists.proofs.Lists.{zero_at}
use Rattle.take_rules.specs.declared.Take.{Take}
use Rattle.take_rules.specs.Take.{no_take}

pub zeros : (n : ℕ) (xs : List ℕ) → length xs ≡ n → ((i d : ℕ) → i < n → get_or xs i d ≡ 0) → xs ≡ replicate n 0
zeros n xs l z = ext_get_or 0 xs (replicate n 0) (l ∙ sym (length-replicate n 0)) (λ i h. z i 0 (omega arith) ∙ sym (zero_at n i))

pub zero_take : (t : Take) → t.who.name ≡ replicate 16 0 → t.who.address ≡ 0 → t.begun ≡ false → let s = t.shape in
    (s.rate ≡ 0) × ((s.channels ≡ 0) × (s.format ≡ 0)) → let l = t.line in
    (l.n ≡ 0) × ((l.newest ≡ 0) × (l.place ≡ 0)) → t ≡ no_take
zero_take t n a b s l = λ i. record {
  who = record { name = n i; address = a i };
  begun = b i;
  shape = record { rate = s.0 i; channels = s.1.0 i; format = s.1.1 i };
  line = record { n = l.0 i; newest = l.1.0 i; place = l.1.1 i };
}
