-- What is computed of a module is to be said of it.
use Rattle.std.proofs.Common.{◌≡◌, List, [], ◌∷◌, map, subst}
use Rattle.validate_bodies.specs.Running.{Answer, module_answer}
use Rattle.validate_bodies.specs.BodyVerdicts.{Says}
use Rattle.checks.specs.Faults.{Case, AllSay}
use Rattle.validate_bodies.proofs.Decided.{module_decided}

-- the answers on some modules
abbrev pub answers : List Case → List Answer
answers cs = map (λ (c : Case). module_answer c.of) cs

abbrev pub wanted : List Case → List Answer
wanted cs = map (λ (c : Case). c.says) cs

first_of : (a b : Answer) (xs ys : List Answer) → a ∷ xs ≡ b ∷ ys → (a ≡ b) × (xs ≡ ys)
first_of a b xs ys e = (cc, cc)

pub all_say : (cs : List Case) → answers cs ≡ wanted cs → AllSay cs
all_say [] e = tt
all_say (c ∷ cs) e =
    let f = first_of (module_answer c.of) c.says (answers cs) (wanted cs) e in
    (subst (Says c.of) f.0 (module_decided c.of), all_say cs f.1)
