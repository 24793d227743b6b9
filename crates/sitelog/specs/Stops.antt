-- What a program that reads site logs is told of its files.
use Rattle.std.specs.Prelude.{◌≡◌, Ok, vec_items, string_bytes}
use Rattle.config.specs.Setup.{Setup}
use Rattle.config.specs.Text.{Bytes}
use Rattle.config.specs.Verdict.{verdict}
use Rattle.sitelog.specs.declared.accepted.Accepted.{Accepted}
use Rattle.sitelog.specs.declared.stop.Stop.{Stop}
use Rattle.sitelog.specs.declared.stop.Stop.TheVariants.{Usage, Refused, File, Line, Io}

-- a fault of the file with this path, unless memory for the path was wanting
abbrev pub TellsOf : Bytes → Stop → Type 0
TellsOf path Usage = ⊥
TellsOf path (Refused line) = ⊥
TellsOf path (File name error) = string_bytes name ≡ path
TellsOf path (Line log number fault) = ⊥
TellsOf path (Io error) = Unit {0}

-- neither of the arguments nor of a file or line that has a name
abbrev pub IsIo : Stop → Type 0
IsIo Usage = ⊥
IsIo (Refused line) = ⊥
IsIo (File name error) = ⊥
IsIo (Line log number fault) = ⊥
IsIo (Io error) = Unit {0}

abbrev pub text_of : Accepted → Bytes
text_of accepted = vec_items accepted.text

-- This is the text, and the check accepts it.
pub record Accepts (text : Bytes) (accepted : Accepted) : Type 0 where
  pub same : text_of accepted ≡ text
  pub writes : Setup
  pub answered : verdict text ≡ Ok writes
