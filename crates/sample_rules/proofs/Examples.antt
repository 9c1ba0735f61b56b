-- The refusals of converting one number, which the bench table leaves out: each computes.
use mathlib.Core.Path.{◌≡◌, refl}
use lib.IntN.{pos, neg_ℤ}
use Rattle.answers.specs.declared.Made.{Made}
use Rattle.answers.specs.declared.Made.TheVariants.{Form, Sample}
use Rattle.formats.specs.Formats.{format_of, may_convert}
use Rattle.sample_rules.specs.declared.Converted.{Converted}
use Rattle.sample_rules.specs.Convert.{convert_of}

abbrev refuses : Made → Converted
refuses a = record { answer = a; value = pos 0 }

pub refusals :
    (convert_of 4 0 (pos 999) ≡ refuses Form)
    × (convert_of 0 4 (pos 999) ≡ refuses Form)
    × (convert_of 0 1 (pos 256) ≡ refuses Sample)
    × (convert_of 1 0 (neg_ℤ (pos 32769)) ≡ refuses Sample)
unfolding convert_of format_of may_convert
refusals = (refl, refl, refl, refl)
