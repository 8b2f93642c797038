-- What is computed of a body or a module is its typing or its first fault.
use Rattle.std.specs.Prelude.{◌≡◌, ℕ}
use Rattle.wa_types.specs.Syntax.{Code, Module}
use Rattle.wa_types.specs.Typing.{Around, Typed}
use Rattle.wa_types.specs.Validity.{Valid}
use Rattle.wa_types.specs.FirstFault.{BodyFault, FirstFault}
use Rattle.validate_bodies.specs.Running.{fine, fault, body_verdict, Answer, valid, invalid, module_answer}

-- The verdict on a body is the typing relation, or the first fault.
abbrev pub VerdictIsTyping : Type 0
VerdictIsTyping =
    (c : Around) → (body : Code) → (body_verdict c body ≡ fine → Typed c body) × ((rule at : ℕ) → body_verdict c body ≡ fault rule at → BodyFault c body rule at)

-- The answer says so of the module.
abbrev pub Says : Module → Answer → Type 0
Says m valid = Valid m
Says m (invalid func rule at) = FirstFault m func rule at

-- Each module is valid or has a first fault, and which is computed.
abbrev pub EachModuleDecided : Type 0
EachModuleDecided = (m : Module) → Says m (module_answer m)
