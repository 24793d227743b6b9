use Rattle.std.proofs.Common.{rules, ◌≡◌, IfSome, take, ℕ, List, [], ◌++◌, Some, None}
use Rattle.std.specs.Option.{option_map}
use Rattle.std.specs.Prelude.{Option}
use Rattle.conffile.proofs.read_text.Goals as goal

-- What is read of the front of all is the front of all.
front_read : (n : ℕ) (text : List ℕ) (all : Option (List ℕ)) → IfSome (option_map (take n) all) (λ xs. text ≡ [] ++ xs) → IfSome all (λ xs. text ≡ take n xs)
front_read n text None h = h
front_read n text (Some xs) h = h

-- src/lib.rt:17:1
pub returns : goal.returns
returns g c = front_read 16385 c.read_to_end.new.buf.items (g.R.Read.remaining c.args.source) (search rules)
