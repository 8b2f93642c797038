-- A program's shows, one after another.
use Rattle.std.proofs.Common.{arith, ◌≡◌, ◌<◌, ◌≤◌, ◌+◌, ℕ, suc, Bool, true, false, if◌then◌else◌, nat_eq, List, ◌∷◌, length, get_or, drop, Some, None, refl, sym, ap, ◌∙◌}
use Rattle.std.proofs.lemmas.Bool.Decides.{nat_tests}
use Rattle.std.proofs.lemmas.List.{drop_more}
use Rattle.std.proofs.lemmas.Option.{slice_get-get_or}
use Rattle.world_model.specs.World.{Look}
use Rattle.event_order.specs.declared.shows.Show.{Show}
use Rattle.event_order.specs.Looks.{look_of, look_at, looks_of, IsNextShow}

told : (b : Bool) (x : Look) → b ≡ true → (if b then Some x else None) ≡ Some x
told true x is = refl
told false x is = absurd cc

found : (program : ℕ) (s : Show) (shows : List Show) → look_at program s ≡ Some (look_of s) → looks_of program (s ∷ shows) ≡ look_of s ∷ looks_of program shows
found program s shows is = rw is refl

pub next_here : (program : ℕ) (shows : List Show) (from i : ℕ) (d : Show) → i < length shows → from ≤ i → (get_or shows i d).program ≡ program
    → looks_of program (drop i shows) ≡ looks_of program (drop from shows) → IsNextShow program shows from i
next_here program shows from i d within behind same before =
    let s = get_or shows i d in
    let test : nat_eq s.program program ≡ true = grind (arith, nat_tests) in
    let step : i + 1 ≡ suc i = omega arith in
    record {
      behind = behind;
      show = s;
      there = slice_get-get_or shows i d within;
      first =
          sym before
          ∙ ap (looks_of program) (drop_more shows i d within)
          ∙ found program s (drop (i + 1) shows) (told _ _ test)
          ∙ ap (λ n. look_of s ∷ looks_of program (drop n shows)) step;
    }
