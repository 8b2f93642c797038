-- Programs that are set up can be hosted.
use Rattle.std.proofs.Common.{◌≡◌, ℕ, zero, suc, ◌+◌, ◌<◌, List, [], ◌∷◌, ◌++◌, length, map, Option, Some, None, Bool, true, false, if◌then◌else◌, nat_eq, slice_get, get_or, take, append_assoc, refl, sym, ap, ◌∙◌, subst, arith}
use Rattle.std.specs.List.{cons_option}
use Rattle.std.proofs.lemmas.Bool.Decides.{nat_tests}
use Rattle.std.proofs.lemmas.List.{append-nil, length-map, map_more}
use Rattle.std.proofs.lemmas.List.Elements.{All-cons, All-nil, filter_map-append}
use Rattle.world_laws.proofs.Places.{of_map, zip_both}
use Rattle.world_model.specs.World as W
use Rattle.world_model.specs.World.{Look, at_start}
use Rattle.event_order.specs.declared.shows.Show.{Show}
use Rattle.event_order.specs.Looks.{looks_of}
use Rattle.event_order.specs.Looks as E
use Rattle.pause_host.specs.declared.program.Program.{Program}
use Rattle.pause_host.specs.Programs.{Follows, lines_left, receive_in}
use Rattle.many_host.specs.Hosts.{AreSetUp}
use Rattle.many_host.specs.MailHosts.{NoneWaits}
use Rattle.script_reader.specs.declared.script.ShowText.{ShowText}
use Rattle.script_reader.specs.Views.{show_of}
use Rattle.transcript.specs.Printing.{names_of}
use Rattle.script_model.specs.Transcript as T
use Rattle.world_hosting.specs.declared.parting.Parted.{Parted}
use Rattle.world_hosting.specs.declared.staging.Staged.{Staged}
use Rattle.world_hosting.specs.Parted.{AreParted, show_at, shows_from}
use Rattle.world_hosting.specs.Views.{AreStaged, IsStaged}
use Rattle.world_hosting.specs.Worlds.{Part, look_at, part_names, world_program, world_programs}

-- ---- the looks of one program among those of several

same_number : (n : ℕ) → nat_eq n n ≡ true
same_number n = grind (arith, nat_tests)

lower_number : (n k : ℕ) → n < k → nat_eq n k ≡ false
lower_number n k h = grind (arith, nat_tests)

higher_number : (n k : ℕ) → k < n → nat_eq n k ≡ false
higher_number n k h = grind (arith, nat_tests)

abbrev looks_in : List ShowText → List Look
looks_in xs = map look_at (map show_of xs)

abbrev only_if : Bool → Look → Option Look
only_if b x = if b then Some x else None

own_looks : (n : ℕ) (xs : List ShowText) → looks_of n (map (show_at n) xs) ≡ looks_in xs
own_looks n [] = refl
own_looks n (x ∷ xs) =
    ap (λ (b : Bool). cons_option (only_if b (look_at (show_of x))) (looks_of n (map (show_at n) xs))) (same_number n)
    ∙ ap (λ (l : List Look). look_at (show_of x) ∷ l) (own_looks n xs)

other_looks : (n k : ℕ) (xs : List ShowText) → nat_eq n k ≡ false → looks_of k (map (show_at n) xs) ≡ []
other_looks n k [] other = refl
other_looks n k (x ∷ xs) other =
    ap (λ (b : Bool). cons_option (only_if b (look_at (show_of x))) (looks_of k (map (show_at n) xs))) other ∙ other_looks n k xs other

later_looks : (n k : ℕ) (ss : List Staged) → k < n → looks_of k (shows_from n ss) ≡ []
later_looks n k [] h = refl
later_looks n k (s ∷ ss) h =
    filter_map-append (E.look_at k) (map (show_at n) s.shows.items) (shows_from (suc n) ss)
    ∙ ap (λ (l : List Look). l ++ looks_of k (shows_from (suc n) ss)) (other_looks n k s.shows.items (higher_number n k h))
    ∙ later_looks (suc n) k ss (omega (arith, h))

-- those of one program among the shows of all
own_of : (n : ℕ) (ss : List Staged) (i : ℕ) (s : Staged) → slice_get ss i ≡ Some s → looks_of (n + i) (shows_from n ss) ≡ looks_in s.shows.items
own_of n [] i s e = cc
own_of n (x ∷ ss) zero s e =
    let first : x ≡ s = cc in
    let here : n + 0 ≡ n = omega arith in
    ap (λ (k : ℕ). looks_of k (shows_from n (x ∷ ss))) here
    ∙ filter_map-append (E.look_at n) (map (show_at n) x.shows.items) (shows_from (suc n) ss)
    ∙ ap (λ (l : List Look). looks_of n (map (show_at n) x.shows.items) ++ l) (later_looks (suc n) n ss (omega arith))
    ∙ append-nil (looks_of n (map (show_at n) x.shows.items))
    ∙ own_looks n x.shows.items
    ∙ ap (λ (y : Staged). looks_in y.shows.items) first
own_of n (x ∷ ss) (suc i) s e =
    let further : n + suc i ≡ suc n + i = omega arith in
    filter_map-append (E.look_at (n + suc i)) (map (show_at n) x.shows.items) (shows_from (suc n) ss)
    ∙ ap (λ (l : List Look). l ++ looks_of (n + suc i) (shows_from (suc n) ss)) (other_looks n (n + suc i) x.shows.items (lower_number n (n + suc i) (omega arith)))
    ∙ ap (λ (k : ℕ). looks_of k (shows_from (suc n) ss)) further
    ∙ own_of (suc n) ss i s e

pub own_at : (ss : List Staged) (i : ℕ) (s : Staged) → slice_get ss i ≡ Some s → looks_of i (shows_from 0 ss) ≡ looks_in s.shows.items
own_at ss i s e =
    let here : i ≡ 0 + i = omega arith in
    ap (λ (k : ℕ). looks_of k (shows_from 0 ss)) here ∙ own_of 0 ss i s e

-- ---- programs at their start

abbrev programs_of : List Staged → List Program
programs_of ss = map (λ (s : Staged). s.program) ss

same_length : (ps : List Part) (ss : List Staged) → AreStaged ps ss → length ss ≡ length ps
same_length [] [] h = refl
same_length [] (s ∷ ss) h = absurd h
same_length (p ∷ ps) [] h = absurd h
same_length (p ∷ ps) (s ∷ ss) h = ap suc (same_length ps ss h.1)

same_names : (ps : List Part) (ss : List Staged) → AreStaged ps ss → map names_of (map (λ (s : Staged). s.names) ss) ≡ map part_names ps
same_names [] [] h = refl
same_names [] (s ∷ ss) h = absurd h
same_names (p ∷ ps) [] h = absurd h
same_names (p ∷ ps) (s ∷ ss) h = ap (λ (n : T.Names). n ∷ map names_of (map (λ (s : Staged). s.names) ss)) h.0.names ∙ ap (λ (l : List T.Names). part_names p ∷ l) (same_names ps ss h.1)

abbrev StartsAs : (number : ℕ) → List Show → W.Program → Program → Type 0
StartsAs number shows w x = Follows w [] [] x × (lines_left x ≡ w.answers) × (w.looks ≡ looks_of number shows) × (w.origin ≡ at_start)

pub are_set_up : (ps : List Part) (ss : List Staged) → AreStaged ps ss → AreSetUp (world_programs ps) (shows_from 0 ss) (programs_of ss)
are_set_up ps ss h = record {
  wide = length-map ss (λ (s : Staged). s.program) ∙ same_length ps ss h ∙ sym (length-map ps world_program);
  each = λ i w x ew ex.
      let p = of_map world_program ps i w ew in
      let s = of_map (λ (s : Staged). s.program) ss i x ex in
      let is = zip_both IsStaged ps ss h i p.0 s.0 p.1 s.1 in
      let looks : map look_at p.0.text.shows ≡ looks_of i (shows_from 0 ss) = ap (map look_at) (sym is.shows) ∙ sym (own_at ss i s.0 s.1) in
      subst (λ (v : W.Program). StartsAs i (shows_from 0 ss) v x) p.2
      (subst (λ (y : Program). StartsAs i (shows_from 0 ss) (world_program p.0) y) s.2 (is.follows, is.answers, looks, refl));
}

-- none of them waits for a mailbox
pub none_wait : (ps : List Part) (ss : List Staged) → AreStaged ps ss → NoneWaits (programs_of ss)
none_wait [] [] h = All-nil (λ (x : Program). receive_in x ≡ None)
none_wait [] (s ∷ ss) h = absurd h
none_wait (p ∷ ps) [] h = absurd h
none_wait (p ∷ ps) (s ∷ ss) h = All-cons (λ (x : Program). receive_in x ≡ None) s.program (programs_of ss) h.0.awake (none_wait ps ss h.1)

pub parted_set_up : (ps : List Part) (ss : List Staged) (x : Parted) → AreStaged ps ss → AreParted ss x → AreSetUp (world_programs ps) x.shows.items x.programs.items
parted_set_up ps ss x h parted =
    subst (λ (l : List Program). AreSetUp (world_programs ps) x.shows.items l) (sym parted.programs)
    (subst (λ (l : List Show). AreSetUp (world_programs ps) l (programs_of ss)) (sym parted.shows) (are_set_up ps ss h))

pub parted_none_wait : (ps : List Part) (ss : List Staged) (x : Parted) → AreStaged ps ss → AreParted ss x → NoneWaits x.programs.items
parted_none_wait ps ss x h parted = subst NoneWaits (sym parted.programs) (none_wait ps ss h)

pub parted_names : (ps : List Part) (ss : List Staged) (x : Parted) → AreStaged ps ss → AreParted ss x → map names_of x.names.items ≡ map part_names ps
parted_names ps ss x h parted = ap (map names_of) parted.names ∙ same_names ps ss h

-- ---- what is shown, one place after another

pub shown_more : (f : ShowText → Show) (old now new : List Show) (xs : List ShowText) (i : ℕ) (d : ShowText) → new ≡ now ++ f (get_or xs i d) ∷ [] → i < length xs → now ≡ old ++ map f (take i xs)
    → new ≡ old ++ map f (take (i + 1) xs)
shown_more f old now new xs i d is lt before =
    is ∙ ap (λ (l : List Show). l ++ f (get_or xs i d) ∷ []) before ∙ append_assoc old (map f (take i xs)) (f (get_or xs i d) ∷ [])
    ∙ ap (λ (l : List Show). old ++ l) (sym (map_more f xs i d lt))
