-- What a carrier of either kind means.
use Rattle.std.specs.Prelude.{ℕ}
use Rattle.carrier.specs.Foldings.{folded_meaning, folded_bytes}
use Rattle.carrier.specs.Meaning.{Meaning}
use Rattle.carrier.specs.Strips.{strip_meaning, strip_bytes}
use Rattle.config.specs.Text.{Bytes}
use Rattle.sitelog.specs.declared.mounted.Kind.{Kind}
use Rattle.sitelog.specs.declared.mounted.Kind.TheVariants.{Strip as A-strip, Folded as A-folded}
use Rattle.sitelog.specs.declared.mounted.Mounted.{Mounted}
use Rattle.sitelog.specs.declared.mounted.Mounted.TheVariants.{Strip, Folded}

abbrev pub mounted_meaning : Mounted → Meaning
mounted_meaning (Strip strip) = strip_meaning strip
mounted_meaning (Folded folded) = folded_meaning folded

abbrev pub mounted_bytes : Mounted → Bytes
mounted_bytes (Strip strip) = strip_bytes strip
mounted_bytes (Folded folded) = folded_bytes folded

-- the bytes that a place takes
abbrev pub place_bytes : Kind → ℕ
place_bytes A-strip = 188
place_bytes A-folded = 189
