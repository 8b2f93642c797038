-- Labels, counted from the innermost, and lists of one result.
use Rattle.std.proofs.Common.{arith, ◌≡◌, ℕ, ◌<◌, ◌≤◌, List, [], ◌∷◌, length, reverse, get_or, ◌-◌, slice_get, Option, Some, None, Bool, true, false, ◌&&◌, nat_lt, refl, ap, ◌∙◌}
use Rattle.std.proofs.lemmas.List.{length-reverse, get_or-reverse}
use Rattle.std.proofs.lemmas.Bool.{lt-ltb}
use Rattle.std.proofs.lemmas.Option.{slice_get-get_or, slice_get_past, slice_get_within}
use Rattle.wa_types.specs.declared.values.ValType.{ValType}
use Rattle.wa_types.specs.Typing.{listed, all_there, all_alike, agrees_with, same_result}
use Rattle.wa_types.proofs.LeafLemmas.{block_unlike, loop_unlike, if_unlike}

pub label_is : (xs : List (Option ValType)) (l : ℕ) (d : Option ValType) → l < length xs → slice_get (reverse xs) l ≡ Some (get_or xs (length xs - 1 - l) d)
label_is xs l d h = (let m : l < length (reverse xs) = omega (arith, length-reverse xs) in slice_get-get_or (reverse xs) l d m) ∙ ap Some (get_or-reverse xs l d h)

pub no_label : (xs : List (Option ValType)) (l : ℕ) → length xs ≤ l → slice_get (reverse xs) l ≡ None
no_label xs l h = slice_get_past (reverse xs) l (omega (arith, length-reverse xs))

pub reverse_listed : (r : Option ValType) → reverse (listed r) ≡ listed r
reverse_listed None = refl
reverse_listed (Some t) = refl

pub ruleset labels_at = (label_is, no_label)

pub ruleset listing = (reverse_listed, reverse_listed)

pub ruleset leaves = (reverse_listed, block_unlike, loop_unlike, if_unlike)

and_right : (a b : Bool) → (a && b) ≡ true → b ≡ true
and_right true b e = e
and_right false b e = cc

-- labels that all take one result are there
pub alike_there : (ls : List (Option ValType)) (r : Option ValType) (table : List ℕ) → all_alike ls r table ≡ true → all_there ls table ≡ true
alike_there ls r [] e = refl
alike_there ls r (l ∷ table) e = by_test (slice_get ls l) refl e (alike_there ls r table)
  where
    by_test : (o : Option (Option ValType)) → slice_get ls l ≡ o → (agrees_with r o && all_alike ls r table) ≡ true → (all_alike ls r table ≡ true → all_there ls table ≡ true)
        → (nat_lt l (length ls) && all_there ls table) ≡ true
    by_test None f h more = cc
    by_test (Some s) f h more = ap (λ b. b && all_there ls table) (lt-ltb l (length ls) (slice_get_within ls l s f)) ∙ more (and_right (same_result r s) (all_alike ls r table) h)

pub ruleset jumps_on = (reverse_listed, alike_there)
