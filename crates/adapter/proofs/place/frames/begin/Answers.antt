use Rattle.std.proofs.Common.{◌≡◌, List, [], ◌∷◌, map, sym, refl, ap, subst}
use Rattle.memory.specs.Memory.{lines_in}
use Rattle.rules.specs.Entries.{Entry}
use Rattle.adapter.specs.Placing.{begun}
use Rattle.adapter.specs.Steps.{step_of}
use Rattle.adapter.proofs.place.frames.begin.Goals as goal

all_stay : (ls : List (List Entry)) → ls ≡ map (λ l. l) ls
all_stay [] = refl
all_stay (l ∷ ls) = ap (λ y. l ∷ y) (all_stay ls)

pub returns-in-Following-clause-lines : goal.returns-in-Following-clause-lines
returns-in-Following-clause-lines c =
    let ls = lines_in c.args.memory.now in
    subst (λ s. ls ≡ map (begun c.args.frame.now (step_of s)) ls) (sym c.in-Following.is) (all_stay ls)

pub returns-in-InStep-clause-lines : goal.returns-in-InStep-clause-lines
returns-in-InStep-clause-lines c =
    let ls = lines_in c.args.memory.now in
    subst (λ s. ls ≡ map (begun c.args.frame.now (step_of s)) ls) (sym c.in-InStep.is) (all_stay ls)
