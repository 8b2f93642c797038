-- Saved locals one by one, and frames call by call.
use Rattle.std.proofs.Common.{◌≡◌, ◌∙◌, ℕ, suc, ◌+◌, ◌<◌, List, [], ◌∷◌, ◌++◌, length, get_or, map, filter, take, Bool, true, false, refl, sym, ap, subst, arith, length-append}
use Rattle.std.specs.Prelude.{if◌then◌else◌}
use Rattle.std.proofs.lemmas.List.{map-append, take_more, length-take-le}
use Rattle.wa_types.specs.declared.values.ValType.{ValType}
use Rattle.local_spill.specs.Laying.{saved_local}
use Rattle.local_spill.specs.declared.frames.Layout.{Layout}
use Rattle.local_spill.specs.declared.frames.Place.{Place}
use Rattle.func_rewrite.specs.WrittenFrames.{numbered_places, IsFrame, FramesFrom, AllFrames}

numbered_append : (x : ℕ) (ts us : List ValType) → numbered_places x (ts ++ us) ≡ numbered_places x ts ++ numbered_places (x + length ts) us
numbered_append x [] us = let z : x ≡ x + 0 = omega arith in ap (λ k. numbered_places k us) z
numbered_append x (t ∷ ts) us =
    let z : suc x + length ts ≡ x + suc (length ts) = omega arith in
    ap (λ ps. record { local = x; ty = t } ∷ ps) (numbered_append (suc x) ts us ∙ ap (λ k. numbered_places (suc x) ts ++ numbered_places k us) z)

pub saved_step : (places new : List Place) (locals : List ValType) (x : ℕ) (p : Place) (d : ValType) → x < length locals → new ≡ places ++ p ∷ [] → p.local ≡ x → p.ty ≡ get_or locals x d
    → map saved_local places ≡ numbered_places 0 (take x locals) → map saved_local new ≡ numbered_places 0 (take (x + 1) locals)
saved_step places new locals x p d lt e el et before =
    let len : length (take x locals) ≡ x = length-take-le x locals (omega arith) in
    let z : p.local ≡ 0 + length (take x locals) = omega arith in
    let one : numbered_places (0 + length (take x locals)) (get_or locals x d ∷ []) ≡ saved_local p ∷ [] =
    ap (λ k. numbered_places k (get_or locals x d ∷ [])) (sym z) ∙ ap (λ t. numbered_places p.local (t ∷ [])) (sym et) in
    ap (map saved_local) e ∙ map-append saved_local places (p ∷ []) ∙ ap (λ ps. ps ++ saved_local p ∷ []) before
    ∙ ap (λ ps. numbered_places 0 (take x locals) ++ ps) (sym one)
    ∙ sym (numbered_append 0 (take x locals) (get_or locals x d ∷ []))
    ∙ ap (numbered_places 0) (sym (take_more locals x d lt))

-- ---- the kept places

filter_append : (keep : Place → Bool) (ps qs : List Place) → filter keep (ps ++ qs) ≡ filter keep ps ++ filter keep qs
filter_append keep [] qs = refl
filter_append keep (p ∷ ps) qs = by (keep p) (filter_append keep ps qs)
  where
    by : (b : Bool) → filter keep (ps ++ qs) ≡ filter keep ps ++ filter keep qs
        → (if b then p ∷ filter keep (ps ++ qs) else filter keep (ps ++ qs)) ≡ (if b then p ∷ filter keep ps else filter keep ps) ++ filter keep qs
    by true ih = ap (λ zs. p ∷ zs) ih
    by false ih = ih

module _ (keep : Place → Bool) (xs : List Place) (i : ℕ) (p d : Place) (lt : i < length xs) (at : p ≡ get_or xs i d) where
  next_is : take (i + 1) xs ≡ take i xs ++ p ∷ []
  next_is = take_more xs i d lt ∙ ap (λ q. take i xs ++ q ∷ []) (sym at)

  pub chosen_next : (places new : List Place) → new ≡ places ++ (if keep p then p ∷ [] else []) → places ≡ filter keep (take i xs) → new ≡ filter keep (take (i + 1) xs)
  chosen_next places new e before =
      e ∙ ap (λ ps. ps ++ (if keep p then p ∷ [] else [])) before
      ∙ sym (filter_append keep (take i xs) (p ∷ [])) ∙ ap (filter keep) (sym next_is)

-- ---- frames

frames_more : (saved : List Place) (k : ℕ) (ls : List Layout) (l : Layout) → FramesFrom saved k ls → IsFrame saved (k + length ls) l → FramesFrom saved k (ls ++ l ∷ [])
frames_more saved k [] l h e = let z : k + 0 ≡ k = omega arith in (subst (λ n. IsFrame saved n l) z e, tt)
frames_more saved k (m ∷ ls) l h e =
    let z : k + suc (length ls) ≡ suc k + length ls = omega arith in (h.0, frames_more saved (suc k) ls l h.1 (subst (λ n. IsFrame saved n l) z e))

pub frames_next : (saved : List Place) (n : ℕ) (ls new : List Layout) (l : Layout) → new ≡ ls ++ l ∷ [] → IsFrame saved n l → AllFrames saved n ls → AllFrames saved (n + 1) new
frames_next saved n ls new l e is h =
    let many = h.many in
    let long = length-append ls (l ∷ []) in
    let same = ap length e in
    let z : n ≡ 0 + length ls = omega arith in
    record { many = omega arith; each = subst (FramesFrom saved 0) (sym e) (frames_more saved 0 ls l h.each (subst (λ k. IsFrame saved k l) z is)) }

pub frames_none : (saved : List Place) (ls : List Layout) → ls ≡ [] → AllFrames saved 0 ls
frames_none saved ls e = subst (AllFrames saved 0) (sym e) (record { many = refl; each = tt })

pub ruleset saving = (saved_step)
