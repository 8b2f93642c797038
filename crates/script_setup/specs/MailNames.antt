-- Names that are looked up, kept in order.
use Rattle.std.specs.Prelude.{ℕ, List, Bool, ◌&&◌}
use Rattle.std.specs.Borrow.{Bor}
use Rattle.std.specs.BTreeSet.{BTreeSet, contains_by, contains_text}
use Rattle.std.specs.Cmp.Lexicographic.{slice_cmp}
use Rattle.std.specs.Ordering.{nat_cmp}
use Rattle.std.specs.Prelude.{String}
use Rattle.std.specs.declared.alloc.Global.{Global}
use Rattle.script_model.specs.Script.{BindText}

-- the name is among them
abbrev pub has_name : BTreeSet (Bor (List ℕ)) → (name : List ℕ) → Bool
has_name names name = contains_by (λ (k : Bor (List ℕ)). slice_cmp nat_cmp name k.now) names

-- a line that names a mailbox, for imports that neither send nor receive, both being looked up
abbrev pub is_found_bad : (boxes : BTreeSet (Bor (List ℕ))) → (unfit : BTreeSet (String Global)) → BindText → Bool
is_found_bad boxes unfit b = has_name boxes b.device && contains_text unfit b.import
