-- What an index of listed names has.
use Rattle.std.specs.Prelude.{◌≡◌, ℕ, List, [], ◌∷◌, Bool, true, false, ◌||◌, nat_eq}
use Rattle.std.specs.List.{list_any, starts_with}
use Rattle.std.specs.Cmp.Lexicographic.{pointwise, slice_cmp}
use Rattle.std.specs.Ordering.{is_le, nat_cmp}
use Rattle.std.specs.Borrow.{Bor}
use Rattle.call_graph.specs.declared.imports.Index.{Index}

-- the name begins with one of the texts
abbrev pub any_begins : List (Bor (List ℕ)) → List ℕ → Bool
any_begins texts name = list_any (λ (t : Bor (List ℕ)). starts_with nat_eq name t.now) texts

-- the name is there, or begins with a text that is
abbrev pub indexed : Index → List ℕ → Bool
indexed x name = list_any (λ (k : Bor (List ℕ)). pointwise nat_eq name k.now) x.names.keys || any_begins x.beginnings.items name

-- the one text isn't behind the other in the order of names
abbrev pub Upto : List ℕ → List ℕ → Type 0
Upto x y = is_le (slice_cmp nat_cmp x y) ≡ true

-- each text, the first with this one in front of it, isn't behind the next, and doesn't begin it
abbrev pub ApartFrom : List ℕ → List (Bor (List ℕ)) → Type 0
ApartFrom front [] = Unit {0}
ApartFrom front (t ∷ ts) = Upto front t.now × (starts_with nat_eq t.now front ≡ false) × ApartFrom t.now ts

-- Texts in order, none of which begins another.
abbrev pub Apart : List (Bor (List ℕ)) → Type 0
Apart [] = Unit {0}
Apart (t ∷ ts) = ApartFrom t.now ts
