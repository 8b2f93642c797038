-- Entries of functions with asserts, one after the other, and what they are of an emitted module.
use Rattle.std.proofs.Common.{◌≡◌, ◌∙◌, ℕ, zero, suc, ◌+◌, ◌<◌, ◌≤◌, ◌^◌, List, [], ◌∷◌, ◌++◌, length, get_or, drop, map, Bool, All, refl, sym, ap, subst, arith, append_assoc, append-nil, length-append}
use Rattle.std.specs.Prelude.{not, slice_get}
use Rattle.std.specs.List.{flat_map}
use Rattle.std.proofs.lemmas.List.{drop_all, length-map}
use Rattle.std.proofs.lemmas.List.Elements.{All-head, All-tail}
use Rattle.wa_types.specs.Pausing.{Callee, direct, indirect, Listed, Settings, has_number, is_told}
use Rattle.wa_types.specs.Runtime.{global_space}
use Rattle.wa_types.specs.Syntax.{Func, Module}
use Rattle.wa_types.specs.View.{func_of}
use Rattle.wa_types.specs.declared.syntax.Func.{Func as FuncValue}
use Rattle.wasm_encode.specs.Around.{code_entry, HoldsEntries}
use Rattle.wasm_encode.specs.Locals.{local_count}
use Rattle.wasm_encode.specs.declared.held.CodeEntries.{CodeEntries}
use Rattle.assert_rewrite.specs.Testing.{without_number}
use Rattle.assert_laws.specs.EmittedWithAsserts.{asserted_body, func_with_asserts, funcs_with_asserts}
use Rattle.assert_rewrite.specs.Asserting.{are_short, entries_with, func_with}
use Rattle.assert_rewrite.specs.declared.asserting.Numbers.{Numbers}

-- ---- one by one

from_here : (fs : List FuncValue) (i : ℕ) (f d : FuncValue) → i < length fs → f ≡ get_or fs i d → drop i (map func_of fs) ≡ func_of f ∷ drop (i + 1) (map func_of fs)
from_here [] i f d lt e = absurd (omega (arith, lt))
from_here (g ∷ fs) zero f d lt e = ap (λ (h : FuncValue). func_of h ∷ map func_of fs) (sym e)
from_here (g ∷ fs) (suc i) f d lt e =
    let z : suc (i + 1) ≡ suc i + 1 = omega arith in
    from_here fs i f d (omega (arith, lt)) e ∙ ap (λ k. func_of f ∷ drop k (func_of g ∷ map func_of fs)) z

module _ (n : Numbers) (first : ℕ) (fs : List FuncValue) where
  abbrev told_at : ℕ → Bool
  told_at i = is_told (slice_get n.which.items (first + i))

  entries_next : (i : ℕ) (f d : FuncValue) → i < length fs → f ≡ get_or fs i d
      → entries_with n (first + i) (drop i (map func_of fs)) ≡ code_entry (func_with n (told_at i) (func_of f)) ++ entries_with n (first + (i + 1)) (drop (i + 1) (map func_of fs))
  entries_next i f d lt e =
      let z : suc (first + i) ≡ first + (i + 1) = omega arith in
      ap (entries_with n (first + i)) (from_here fs i f d lt e)
      ∙ ap (λ k. code_entry (func_with n (told_at i) (func_of f)) ++ entries_with n k (drop (i + 1) (map func_of fs))) z

  short_here : (i : ℕ) (f d : FuncValue) → i < length fs → f ≡ get_or fs i d → are_short n (first + i) (drop i (map func_of fs))
      → are_short n (first + i) (func_of f ∷ drop (i + 1) (map func_of fs))
  short_here i f d lt e h = subst (are_short n (first + i)) (from_here fs i f d lt e) h

  -- What is known where so many functions are done.
  pub record Going (old : CodeEntries) (i : ℕ) (new : CodeEntries) : Type 0 where
    pub bytes : List ℕ
    pub put : (entries : List ℕ) → HoldsEntries old entries → HoldsEntries new (entries ++ bytes)
    pub whole : bytes ++ entries_with n (first + i) (drop i (map func_of fs)) ≡ entries_with n first (map func_of fs)
    pub left : are_short n (first + i) (drop i (map func_of fs))

  pub going_first : (out : CodeEntries) → are_short n first (map func_of fs) → Going out 0 out
  going_first out h =
      let z : first ≡ first + 0 = omega arith in
      record {
        bytes = [];
        put = λ es k. subst (HoldsEntries out) (sym (append-nil es)) k;
        whole = ap (λ k. entries_with n k (map func_of fs)) (sym z);
        left = subst (λ k. are_short n k (map func_of fs)) z h;
      }

  module _ (old new : CodeEntries) (i : ℕ) (f d : FuncValue) (lt : i < length fs) (is : f ≡ get_or fs i d) (g : Going old i new) (told : Bool) (te : told ≡ told_at i) (h : FuncValue)
      (he : func_of h ≡ func_with n told (func_of f)) where
    one_is : func_of h ≡ func_with n (told_at i) (func_of f)
    one_is = he ∙ ap (λ b. func_with n b (func_of f)) te

    pub one_locals : local_count h.locals.items < 2 ^ 32
    one_locals = subst (λ (k : Func). local_count k.locals < 2 ^ 32) (sym one_is) (short_here i f d lt is g.left).0

    pub one_short : length (code_entry (func_of h)) < 2 ^ 64
    one_short = subst (λ (k : Func). length (code_entry k) < 2 ^ 64) (sym one_is) (short_here i f d lt is g.left).1

    pub going_next : (more : CodeEntries) → ((entries : List ℕ) → HoldsEntries new entries → HoldsEntries more (entries ++ code_entry (func_of h))) → Going old (i + 1) more
    going_next more put =
        let z : suc (first + i) ≡ first + (i + 1) = omega arith in
        record {
          bytes = g.bytes ++ code_entry (func_of h);
          put = λ es k. subst (HoldsEntries more) (append_assoc es g.bytes (code_entry (func_of h))) (put (es ++ g.bytes) (g.put es k));
          whole = append_assoc g.bytes (code_entry (func_of h)) _
              ∙ ap (λ bs. g.bytes ++ (bs ++ entries_with n (first + (i + 1)) (drop (i + 1) (map func_of fs)))) (ap code_entry one_is)
              ∙ ap (λ bs. g.bytes ++ bs) (sym (entries_next i f d lt is)) ∙ g.whole;
          left = subst (λ k. are_short n k (drop (i + 1) (map func_of fs))) z (short_here i f d lt is g.left).2;
        }

  pub going_end : (old new : CodeEntries) (i : ℕ) → length fs ≤ i → Going old i new
      → (entries : List ℕ) → HoldsEntries old entries → HoldsEntries new (entries ++ entries_with n first (map func_of fs))
  going_end old new i le g es k =
      let many = length-map fs func_of in
      let none : drop i (map func_of fs) ≡ [] = drop_all i (map func_of fs) (omega (arith, le, many)) in
      let all : g.bytes ≡ entries_with n first (map func_of fs) = sym (append-nil g.bytes) ∙ ap (λ xs. g.bytes ++ entries_with n (first + i) xs) (sym none) ∙ g.whole in
      subst (λ bs. HoldsEntries new (es ++ bs)) all (g.put es k)

-- ---- of an emitted module

module _ (m : Module) (s : Settings) (which : List Bool) (n : Numbers) (ew : n.which.items ≡ which) (el : n.listed.items ≡ Listed m s) (ei : n.ignore_indirect ≡ s.ignore_indirect)
    (es : n.state ≡ global_space m) where
  same_test : (c : Callee) → without_number which (Listed m s) s.ignore_indirect c ≡ not (has_number m s which c)
  same_test (direct x) = refl
  same_test (indirect t) = refl

  same_tests : without_number n.which.items n.listed.items n.ignore_indirect ≡ (λ (c : Callee). not (has_number m s which c))
  same_tests = (λ i. without_number (ew i) (el i) (ei i)) ∙ (λ i c. same_test c i)

  same_func : (x : ℕ) (g : Func) → func_with n (is_told (slice_get n.which.items x)) g ≡ func_with_asserts m s which x g
  same_func x g = λ i. record g { body = asserted_body (same_tests i) (es i) (is_told (slice_get (ew i) x)) g.body }

  pub same_entries : (x : ℕ) (gs : List Func) → entries_with n x gs ≡ flat_map code_entry (funcs_with_asserts m s which x gs)
  same_entries x [] = refl
  same_entries x (g ∷ gs) = λ i. code_entry (same_func x g i) ++ same_entries (suc x) gs i

  pub all_short : (x : ℕ) (gs : List Func) → All (λ (f : Func). local_count f.locals < 2 ^ 32) gs → length (flat_map code_entry (funcs_with_asserts m s which x gs)) < 2 ^ 64 → are_short n x gs
  all_short x [] locals fits = tt
  all_short x (g ∷ gs) locals fits =
      let here = code_entry (func_with_asserts m s which x g) in
      let behind = flat_map code_entry (funcs_with_asserts m s which (suc x) gs) in
      let both = length-append here behind in
      let same = ap (λ (f : Func). length (code_entry f)) (same_func x g) in (
        All-head (λ (f : Func). local_count f.locals < 2 ^ 32) g gs locals,
        omega (arith, both, fits, same),
        all_short (suc x) gs (All-tail (λ (f : Func). local_count f.locals < 2 ^ 32) g gs locals) (omega (arith, both, fits)),
      )
