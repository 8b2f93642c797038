-- What is known of a program whose strand told one note more.
use Rattle.std.proofs.Common.{arith, ◌≡◌, ◌<◌, ◌≤◌, ◌*◌, ℕ, zero, suc, ◌+◌, List, [], ◌∷◌, ◌++◌, length, Option, Some, false, refl, sym, ap, ◌∙◌, subst}
use Rattle.std.specs.Prelude.{slice_get, slice_set}
use Rattle.std.proofs.lemmas.List.Elements.{All-cons, All-head, All-tail, All-weaker}
use Rattle.wa_model.specs.Outside.{Event, answered, called, ended, parked, paused, returned, shown}
use Rattle.world_model.specs.World.{ends_turn, is_end, ticks_in}
use Rattle.strand_laws.proofs.Blocks.{none_is, the_same}
use Rattle.strand_laws.specs.ToldStrands.{StrandTeller}
use Rattle.strand_laws.specs.Weaving.{Dues, now_behind}
use Rattle.strand_laws.specs.Woven.{Thread, Told, put}
use Rattle.strand_host.specs.Standing.{DuesWithin, as_due, dues_of_strands, dues_of_threads, longest_pause, now_told, somewhere, unless_over}

-- ---- dues

pub dues_put_threads : {S : Type 0} (k d : ℕ) (o : Option S) (ts : List (Thread S)) → dues_of_threads (put k d o ts) ≡ put k d (somewhere o) (dues_of_threads ts)
dues_put_threads k d o [] = refl
dues_put_threads zero d o (t ∷ ts) = refl
dues_put_threads (suc k) d o (t ∷ ts) = ap (λ (v : Dues). record { due = t.due; at = somewhere t.at } ∷ v) (dues_put_threads k d o ts)

pub dues_set : (ss : List StrandTeller) (k : ℕ) (s : StrandTeller) → dues_of_strands (slice_set ss k s) ≡ put k s.due (unless_over s.has_ended) (dues_of_strands ss)
dues_set [] k s = refl
dues_set (x ∷ ss) zero s = refl
dues_set (x ∷ ss) (suc k) s = ap (λ (v : Dues). as_due x ∷ v) (dues_set ss k s)

pub dues_length : {S : Type 0} (ts : List (Thread S)) → length (dues_of_threads ts) ≡ length ts
dues_length [] = refl
dues_length (t ∷ ts) = ap suc (dues_length ts)

pub dues_long : (ss : List StrandTeller) → length (dues_of_strands ss) ≡ length ss
dues_long [] = refl
dues_long (s ∷ ss) = ap suc (dues_long ss)

pub put_twice : (k d e : ℕ) (o p : Option (Unit {0})) (v : Dues) → put k e p (put k d o v) ≡ put k e p v
put_twice k d e o p [] = refl
put_twice zero d e o p (t ∷ v) = refl
put_twice (suc k) d e o p (t ∷ v) = ap (λ (u : Dues). t ∷ u) (put_twice k d e o p v)

pub put_length : {S : Type 0} (k d : ℕ) (o : Option S) (ts : List (Thread S)) → length (put k d o ts) ≡ length ts
put_length k d o [] = refl
put_length zero d o (t ∷ ts) = refl
put_length (suc k) d o (t ∷ ts) = ap suc (put_length k d o ts)

-- behind what a strand told all is due as the threads say
pub dues_told : {S : Type 0} (ts : List (Thread S)) (ss : List StrandTeller) (k due due' : ℕ) (o o' : Option S) (s' : StrandTeller) → dues_of_threads (put k due o ts) ≡ dues_of_strands ss
    → s'.due ≡ due' → unless_over s'.has_ended ≡ somewhere o' → dues_of_threads (put k due' o' ts) ≡ dues_of_strands (slice_set ss k s')
dues_told ts ss k due due' o o' s' h e q =
    dues_put_threads k due' o' ts
    ∙ sym (put_twice k due due' (somewhere o) (somewhere o') (dues_of_threads ts))
    ∙ ap (put k due' (somewhere o')) (sym (dues_put_threads k due o ts) ∙ h)
    ∙ ap (λ n. put k n (somewhere o') (dues_of_strands ss)) (sym e)
    ∙ ap (λ (p : Option (Unit {0})). put k s'.due p (dues_of_strands ss)) (sym q)
    ∙ sym (dues_set ss k s')

-- a strand that stands in its place already
pub dues_same : {S : Type 0} (ts : List (Thread S)) (k due : ℕ) (h h' : S) → slice_get ts k ≡ Some (record { due = due; at = Some h }) → dues_of_threads (put k due (Some h') ts) ≡ dues_of_threads ts
dues_same [] k due h h' e = refl
dues_same (t ∷ ts) zero due h h' e =
    ap (λ (u : Thread _). record { due = u.due; at = somewhere u.at } ∷ dues_of_threads ts) (sym (the_same t (record { due = due; at = Some h }) e))
dues_same (t ∷ ts) (suc k) due h h' e = ap (λ (v : Dues). record { due = t.due; at = somewhere t.at } ∷ v) (dues_same ts k due h h' e)

pub get_lt : {A : Type 0} (xs : List A) (k : ℕ) (x : A) → slice_get xs k ≡ Some x → k < length xs
get_lt [] k x e = none_is x e
get_lt (y ∷ xs) zero x e = omega arith
get_lt (y ∷ xs) (suc k) x e = let h = get_lt xs k x e in omega (arith, h)

-- ---- a note

pub now_last : (xs : List Told) (t : Told) → now_told (xs ++ t ∷ []) ≡ now_behind t.strand t.note.event
now_last [] t = refl
now_last (x ∷ []) t = refl
now_last (x ∷ y ∷ xs) t = now_last (y ∷ xs) t

-- one that ends no turn
pub quiet_note : (k : ℕ) (e : Event) → ends_turn e ≡ false → (now_behind k e ≡ Some k) × (ticks_in e ≡ 0) × (is_end e ≡ false)
quiet_note k (called c) h = (refl, refl, refl)
quiet_note k (answered c) h = (refl, refl, refl)
quiet_note k (parked c) h = (refl, refl, refl)
quiet_note k (returned c d) h = (refl, refl, refl)
quiet_note k (shown c d) h = (refl, refl, refl)
quiet_note k (paused c d) h = let no_way : ⊥ = cc in absurd no_way
quiet_note k (ended c) h = let no_way : ⊥ = cc in absurd no_way

-- ---- bounds

pub within_more : (used more : ℕ) (ss : List StrandTeller) → DuesWithin used ss → DuesWithin (used + more) ss
within_more used more ss h =
    All-weaker (λ (s : StrandTeller). s.due ≤ longest_pause * used) (λ (s : StrandTeller). s.due ≤ longest_pause * (used + more)) (λ s le. let z : s.due ≤ longest_pause * (used + more) = omega (arith, le) in z) ss h

pub within_set : (used k : ℕ) (s' : StrandTeller) (ss : List StrandTeller) → DuesWithin used ss → s'.due ≤ longest_pause * used → DuesWithin used (slice_set ss k s')
within_set used k s' [] h le = h
within_set used zero s' (s ∷ ss) h le =
    All-cons (λ (s : StrandTeller). s.due ≤ longest_pause * used) s' ss le (All-tail (λ (s : StrandTeller). s.due ≤ longest_pause * used) s ss h)
within_set used (suc k) s' (s ∷ ss) h le =
    All-cons (λ (s : StrandTeller). s.due ≤ longest_pause * used) s (slice_set ss k s') (All-head (λ (s : StrandTeller). s.due ≤ longest_pause * used) s ss h)
    (within_set used k s' ss (All-tail (λ (s : StrandTeller). s.due ≤ longest_pause * used) s ss h) le)

pub within_at : (used k : ℕ) (s : StrandTeller) (ss : List StrandTeller) → DuesWithin used ss → slice_get ss k ≡ Some s → s.due ≤ longest_pause * used
within_at used k s [] h e = none_is s e
within_at used zero s (t ∷ ss) h e = subst (λ (u : StrandTeller). u.due ≤ longest_pause * used) (the_same t s e) (All-head (λ (s : StrandTeller). s.due ≤ longest_pause * used) t ss h)
within_at used (suc k) s (t ∷ ss) h e = within_at used k s ss (All-tail (λ (s : StrandTeller). s.due ≤ longest_pause * used) t ss h) e
