-- A story under the protocol that is cut at a pause is what is expected of the original up to there.
use Rattle.std.proofs.Common.{◌≡◌, ◌≤◌, ℕ, zero, suc, List, [], ◌∷◌, ◌++◌, length, take, drop, Some, None, Bool, true, false, slice_get, refl, sym, ap, ◌∙◌, subst}
use Rattle.std.specs.List.{AllZip}
use Rattle.wa_types.specs.Runtime.{global_space}
use Rattle.wa_model.specs.Plan.{Outcome}
use Rattle.wa_model.specs.Blocking.{Note}
use Rattle.wa_model.specs.Protocol.{Held, Protocol, aside, busy, calling, entering, free, over, starting}
use Rattle.wa_model.specs.Behaves.{BehavesOn, Compared, expected_notes}
use Rattle.run_laws.specs.ListedPauses.{ComparedUntold}
use Rattle.run_laws.proofs.UntoldRuns.{behaves_untold}
use Rattle.world_model.specs.World.{Original, Program, protocol_story, unless_over}
use Rattle.world_laws.specs.Originals.{SameMoment, StandsIn}
use Rattle.world_laws.proofs.Stories.{story_stands}
use Rattle.mail_laws.specs.MailWorld.{StoryOrCut, is_pause, pauses, waits}
use Rattle.mail_laws.specs.MailOriginals.{CutStoriesOfOriginals, CutStoriesUntold, with_steps, within}

-- ---- notes up to a pause

abbrev NonePause : List Note → Type 0
NonePause [] = Unit {0}
NonePause (z ∷ zs) = (is_pause z.event ≡ false) × NonePause zs

unless_none : (n : ℕ) (h : Held) → NonePause (unless_over n h)
unless_none n (free s l) = (refl, tt)
unless_none n (starting f s l) = (refl, tt)
unless_none n (busy ph c l) = (refl, tt)
unless_none n (calling ph s f args th l) = (refl, tt)
unless_none n (aside ph c th l) = (refl, tt)
unless_none n (entering ph e s l) = (refl, tt)
unless_none n (over s) = tt

no_pause_there : (xs r zs : List Note) → xs ++ r ≡ zs → NonePause zs → pauses xs ≡ true → ⊥
no_pause_there [] r zs e none p = let no_way : false ≡ true = p in cc
no_pause_there (x ∷ xs) r [] e none p = let no_way : x ∷ (xs ++ r) ≡ [] = e in cc
no_pause_there (x ∷ []) r (z ∷ zs) e none p = let same : x ≡ z = cc in let no_way : false ≡ true = sym (ap (λ (y : Note). is_pause y.event) same ∙ none.0) ∙ p in cc
no_pause_there (x ∷ y ∷ xs) r (z ∷ zs) e none p = no_pause_there (y ∷ xs) r zs (rest e) none.1 p
  where
    rest : x ∷ (y ∷ (xs ++ r)) ≡ z ∷ zs → y ∷ (xs ++ r) ≡ zs
    rest e = cc

-- notes up to a pause stand in front of others without one
before_end : (xs r ys zs : List Note) → xs ++ r ≡ ys ++ zs → NonePause zs → pauses xs ≡ true → (more : List Note) × (ys ≡ xs ++ more)
before_end xs r [] zs e none p = absurd (no_pause_there xs r zs e none p)
before_end [] r (y ∷ ys) zs e none p = let no_way : false ≡ true = p in cc
before_end (x ∷ []) r (y ∷ ys) zs e none p = (ys, first e)
  where
    first : x ∷ r ≡ y ∷ (ys ++ zs) → y ∷ ys ≡ x ∷ ys
    first e = let same : x ≡ y = cc in ap (λ (z : Note). z ∷ ys) (sym same)
before_end (x ∷ x2 ∷ xs) r (y ∷ ys) zs e none p =
    let on = before_end (x2 ∷ xs) r ys zs (rest e) none p in (on.0, first e ∙ ap (λ (l : List Note). x ∷ l) on.1)
  where
    rest : x ∷ (x2 ∷ (xs ++ r)) ≡ y ∷ (ys ++ zs) → x2 ∷ (xs ++ r) ≡ ys ++ zs
    rest e = cc

    first : x ∷ (x2 ∷ (xs ++ r)) ≡ y ∷ (ys ++ zs) → y ∷ ys ≡ x ∷ ys
    first e = let same : x ≡ y = cc in ap (λ (z : Note). z ∷ ys) (sym same)

pub pauses_zip : (R : Note → Note → Type 0) → ((x y : Note) → R x y → x.event ≡ y.event) → (xs ys : List Note) → AllZip R xs ys → pauses xs ≡ pauses ys
pauses_zip R same [] [] h = refl
pauses_zip R same [] (y ∷ ys) h = absurd h
pauses_zip R same (x ∷ xs) [] h = absurd h
pauses_zip R same (x ∷ []) (y ∷ []) h = ap is_pause (same x y h.0)
pauses_zip R same (x ∷ []) (y ∷ z ∷ ys) h = absurd h.1
pauses_zip R same (x ∷ z ∷ xs) (y ∷ []) h = absurd h.1
pauses_zip R same (x ∷ x2 ∷ xs) (y ∷ y2 ∷ ys) h = pauses_zip R same (x2 ∷ xs) (y2 ∷ ys) h.1

-- ---- lists

split_at : (n : ℕ) (xs : List Note) → xs ≡ take n xs ++ drop n xs
split_at zero xs = refl
split_at (suc n) [] = refl
split_at (suc n) (x ∷ xs) = ap (λ (l : List Note). x ∷ l) (split_at n xs)

get_front : (xs ys : List Note) (i : ℕ) (x : Note) → slice_get xs i ≡ Some x → slice_get (xs ++ ys) i ≡ Some x
get_front [] ys i x e = absurd cc
get_front (z ∷ xs) ys zero x e = e
get_front (z ∷ xs) ys (suc i) x e = get_front xs ys i x e

-- where each on the right has one beside it, as many on the left do
zip_of : (R : Note → Note → Type 0) (xs ys : List Note) → ((i : ℕ) (y : Note) → slice_get ys i ≡ Some y → (x : Note) × (slice_get xs i ≡ Some x) × R x y) → AllZip R (take (length ys) xs) ys
zip_of R xs [] h = tt
zip_of R [] (y ∷ ys) h = let w = h 0 y refl in let e : None ≡ Some w.0 = w.1 in absurd cc
zip_of R (x ∷ xs) (y ∷ ys) h = (first (h 0 y refl), zip_of R xs ys (λ i z e. h (suc i) z e))
  where
    first : (z : Note) × (slice_get (x ∷ xs) 0 ≡ Some z) × R z y → R x y
    first w = let e : x ≡ w.0 = same x w.0 w.1 in subst (λ (z : Note). R z y) (sym e) w.2
      where
        same : (a b : Note) → Some a ≡ Some b → a ≡ b
        same a b e = cc

-- ---- the laws

-- a story of the original beside these notes
abbrev pub Told : Original → List Outcome → List Note → Type 0
Told o os notes = (expected : List Note) × StoryOrCut o.settings o.program os expected × AllZip (SameMoment (global_space o.program.source) o.program.plan.area) expected notes

-- an original stands in for the same within fewer steps
within_stands : (n : ℕ) (o : Original) (w : Program) → StandsIn o w → StandsIn (within n o) (with_steps n w)
within_stands n o w st = record {
  rewrites = st.rewrites;
  plan = st.plan;
  steps = refl;
  answers = st.answers;
  binds = st.binds;
  looks = st.looks;
  start = st.start;
  original_start = st.original_start;
}

cut_by : (o : Original) (w : Program) (os : List Outcome) (notes rest : List Note) (n : ℕ) → n ≤ o.program.steps → StandsIn o w → (which : List Bool)
    → BehavesOn o.program.source o.settings w.source o.program.plan os n which (expected_notes o.program.source o.settings o.program.plan os n)
    → protocol_story (with_steps n w) os ≡ notes ++ rest → pauses notes ≡ true → Told o os notes
cut_by o w os notes rest n le st which behaves e cut =
    let made : List Note = (Protocol w.source o.program.plan os n).events in
    let last : Held = (Protocol w.source o.program.plan os n).last in
    let expected : List Note = expected_notes o.program.source o.settings o.program.plan os n in
    let split = before_end notes rest made (unless_over n last) (sym e ∙ story_stands (within n o) (with_steps n w) os (within_stands n o w st)) (unless_none n last) cut in
    let beside : AllZip (SameMoment (global_space o.program.source) o.program.plan.area) (take (length notes) expected) notes =
    zip_of (SameMoment (global_space o.program.source) o.program.plan.area) expected notes
    (λ i y there. let x = behaves.notes i y (ap (λ (l : List Note). slice_get l i) split.1 ∙ get_front notes split.0 i y there) in
    (x.0, x.1, record { event = x.2.event; ends = x.2.ends })) in (
      take (length notes) expected,
      waits n (drop (length notes) expected) le (split_at (length notes) expected)
          (pauses_zip (SameMoment (global_space o.program.source) o.program.plan.area) (λ x y h. h.event) (take (length notes) expected) notes beside ∙ cut),
      beside,
    )

pub cut_stories : CutStoriesOfOriginals
cut_stories o w os notes rest n st may fits le ord e cut =
    let compared : Compared o.program.source o.settings o.program.plan os n =
    record { fits = may.fits; listed = may.listed; outcomes = fits; untouched = ord.untouched } in
    cut_by o w os notes rest n le st ord.which
    (st.rewrites.behaves may.well_formed ord.which ord.tells o.program.plan os n compared ord.numbered) e cut

pub cut_untold : CutStoriesUntold
cut_untold o w os notes rest n st may fits le ord e cut =
    let compared : ComparedUntold o.program.source o.settings o.program.plan os n =
    record { fits = may.fits; allows = may.allows; outcomes = fits; untouched = ord.untouched; listed = ord.listed } in
    cut_by o w os notes rest n le st ord.which
    (behaves_untold o.program.source o.settings w.source st.rewrites.behaves may.well_formed ord.which ord.tells o.program.plan os n compared ord.numbered) e cut
