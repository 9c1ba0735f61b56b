-- The rates in Hz by index (document 01, "The 28 bytes").
use Rattle.std.specs.Prelude.{ℕ, zero, suc, ◌*◌, List, [], ◌∷◌, get_or, ltb}
use Rattle.lists.specs.Tables.{choose}
use Rattle.answers.specs.declared.Answer.TheVariants.{Accepted, Rate}
use Rattle.wire_rules.specs.declared.Rated.{Rated}

unfoldable pub rates : List ℕ
rates =
    6000 ∷ 12000 ∷ 24000 ∷ 48000 ∷ 96000 ∷ 192000 ∷ 384000 ∷ 8000 ∷ 16000 ∷ 32000 ∷ 64000 ∷ 128000 ∷ 256000 ∷ 512000
    ∷ 11025 ∷ 22050 ∷ 44100 ∷ 88200 ∷ 176400 ∷ 352800 ∷ 705600 ∷ []

-- 0 and the rate; 9 and zero for an index over 20
unfoldable pub rate_of : ℕ → Rated
rate_of i = choose (ltb 20 i) (record { answer = Rate; hertz = 0 }) (record { answer = Accepted; hertz = get_or rates i 0 })

-- n rates, each twice the one before
abbrev pub doubled : ℕ → ℕ → List ℕ
doubled zero hertz = []
doubled (suc n) hertz = hertz ∷ doubled n (2 * hertz)
