-- What is marked, part behind part.
use Rattle.std.proofs.Common.{◌≡◌, ℕ, ◌+◌, List, [], ◌∷◌, ◌++◌, Option, Some, None, Bool, true, false, nat_lt, refl, ap, sym, ◌∙◌, arith, append_assoc, append-nil}
use Rattle.wa_types.specs.Marks.{first_above}
use Rattle.wa_types.specs.ModuleBounds.{ModuleBounds}
use Rattle.file_laws.specs.declared.marks.Marks.{Marks}
use Rattle.file_laws.specs.Showing.{Seen, nothing_seen, both, first_of, above_of, total, Noted}

first_none : (o : Option ℕ) → first_of o [] ≡ o
first_none None = refl
first_none (Some k) = refl

first_both : (o : Option ℕ) (ks js : List ℕ) → first_of o (ks ++ js) ≡ first_of (first_of o ks) js
first_both None [] js = refl
first_both None (k ∷ ks) js = refl
first_both (Some k) ks js = refl

above_none : (b : ℕ) (o : Option ℕ) → above_of b o [] ≡ o
above_none b None = refl
above_none b (Some k) = refl

above_list : (b : ℕ) (ns ks : List ℕ) → first_above b (ns ++ ks) ≡ above_of b (first_above b ns) ks
above_list b [] ks = refl
above_list b (n ∷ ns) ks = by_test (above_list b ns ks) (nat_lt b n) refl where
  by_test : first_above b (ns ++ ks) ≡ above_of b (first_above b ns) ks → (t : Bool) → nat_lt b n ≡ t → first_above b ((n ∷ ns) ++ ks) ≡ above_of b (first_above b (n ∷ ns)) ks
  by_test more true e = rw e refl
  by_test more false e = rw e more

above_both : (b : ℕ) (o : Option ℕ) (ns ks : List ℕ) → above_of b o (ns ++ ks) ≡ above_of b (above_of b o ns) ks
above_both b None ns ks = above_list b ns ks
above_both b (Some k) ns ks = refl

total_none : total [] ≡ 0
total_none = refl

pub total_both : (ms ns : List ℕ) → total (ms ++ ns) ≡ total ms + total ns
total_both [] ns = omega arith
total_both (m ∷ ms) ns = omega (arith, total_both ms ns)

pub noted_none : (b : ModuleBounds) (m : Marks) → Noted b nothing_seen m m
noted_none b m = record {
  float = sym (first_none m.float);
  functions = λ h. omega (arith, total_none);
  parameters = sym (above_none b.parameters m.parameters);
  body = sym (above_none b.body m.body);
  deep = sym (first_none m.deep);
}

pub noted_both : (b : ModuleBounds) (s t : Seen) (l m n : Marks) → Noted b s l m → Noted b t m n → Noted b (both s t) l n
noted_both b s t l m n f g = record {
  float = g.float ∙ ap (λ o. first_of o t.floats_at) f.float ∙ sym (first_both l.float s.floats_at t.floats_at);
  functions = λ h.
      let e = total_both s.counts t.counts in
      let p = f.functions (omega (arith, h, e)) in
      let q = g.functions (omega (arith, h, e, p)) in
      omega (arith, e, p, q);
  parameters = g.parameters ∙ ap (λ o. above_of b.parameters o t.params) f.parameters ∙ sym (above_both b.parameters l.parameters s.params t.params);
  body = g.body ∙ ap (λ o. above_of b.body o t.sizes) f.body ∙ sym (above_both b.body l.body s.sizes t.sizes);
  deep = g.deep ∙ ap (λ o. first_of o t.opens_at) f.deep ∙ sym (first_both l.deep s.opens_at t.opens_at);
}

pub both_none : (s : Seen) → both s nothing_seen ≡ s
both_none s =
    λ i. record { floats_at = append-nil s.floats_at i; opens_at = append-nil s.opens_at i; counts = append-nil s.counts i; params = append-nil s.params i; sizes = append-nil s.sizes i }

pub both_assoc : (s t u : Seen) → both (both s t) u ≡ both s (both t u)
both_assoc s t u =
    λ i. record {
      floats_at = append_assoc s.floats_at t.floats_at u.floats_at i;
      opens_at = append_assoc s.opens_at t.opens_at u.opens_at i;
      counts = append_assoc s.counts t.counts u.counts i;
      params = append_assoc s.params t.params u.params i;
      sizes = append_assoc s.sizes t.sizes u.sizes i;
    }
