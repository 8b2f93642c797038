-- The first poke that is bad, as the program finds it.
use Rattle.std.proofs.Common.{◌≡◌, ◌<◌, ◌^◌, ℕ, suc, List, [], ◌∷◌, Option, Some, None, Bool, true, false, cond, map, length, refl, sym, ap, ◌∙◌, subst, not, Result, Ok, Err}
use Rattle.std.specs.List.{find, All}
use Rattle.std.specs.Result.{OkIff, result_unwrap_or}
use Rattle.std.proofs.lemmas.Result.{OkIff-at_ok, OkIff-at_err}
use Rattle.std.specs.Option.{option_map}
use Rattle.std.proofs.lemmas.List.Elements.{All-head, All-tail}
use Rattle.wa_model.specs.declared.answers.Area.{Area}
use Rattle.wa_model.specs.declared.answers.Poke.{Poke as PokeValue}
use Rattle.wa_model.specs.declared.events.End.{End}
use Rattle.wa_model.specs.declared.events.End.TheVariants.{BadPoke}
use Rattle.wa_model.specs.Blocking.{bad_poke, poke_fits}
use Rattle.wa_model.specs.View.{poke_of}
use Rattle.host_laws.specs.Answering.{IsShort}

module _ (size : ℕ) (areas : List Area) where
  abbrev is_bad : PokeValue → Bool
  is_bad p = not (poke_fits size areas (poke_of p))

  abbrev end_by : PokeValue → End
  end_by p = BadPoke p.at (length p.bytes.items)

  pub found : (ps : List PokeValue) → bad_poke size areas (map poke_of ps) ≡ option_map end_by (find is_bad ps)
  found [] = refl
  found (p ∷ ps) = by_test (poke_fits size areas (poke_of p)) (found ps)
    where
      by_test : (b : Bool) → bad_poke size areas (map poke_of ps) ≡ option_map end_by (find is_bad ps)
          → cond b (bad_poke size areas (map poke_of ps)) (Some (end_by p)) ≡ option_map end_by (cond (not b) (Some p) (find is_bad ps))
      by_test true ih = ih
      by_test false ih = refl

  found_short : (ps : List PokeValue) (p : PokeValue) → find is_bad ps ≡ Some p → All IsShort (map poke_of ps) → length p.bytes.items < 2 ^ 32
  found_short [] p e h = cc
  found_short (q ∷ ps) p e h = by_test (poke_fits size areas (poke_of q)) e (λ z. found_short ps p z (All-tail IsShort (poke_of q) (map poke_of ps) h))
    where
      by_test : (b : Bool) → cond (not b) (Some q) (find is_bad ps) ≡ Some p → (find is_bad ps ≡ Some p → length p.bytes.items < 2 ^ 32) → length p.bytes.items < 2 ^ 32
      by_test true z on = on z
      by_test false z on = let same : q ≡ p = cc in subst (λ (r : PokeValue). length r.bytes.items < 2 ^ 32) same (All-head IsShort (poke_of q) (map poke_of ps) h)

  pub none_bad : (ps : List PokeValue) → None ≡ find is_bad ps → None ≡ bad_poke size areas (map poke_of ps)
  none_bad ps e = sym (found ps ∙ ap (option_map end_by) (sym e))

  pub first_bad : (ps : List PokeValue) (p : PokeValue) (len : ℕ) → Some p ≡ find is_bad ps → (length p.bytes.items < 2 ^ 32 → len ≡ length p.bytes.items) → All IsShort (map poke_of ps)
      → Some (BadPoke p.at len) ≡ bad_poke size areas (map poke_of ps)
  first_bad ps p len e l h = ap (λ n. Some (BadPoke p.at n)) (l (found_short ps p (sym e) h)) ∙ sym (found ps ∙ ap (option_map end_by) (sym e))

-- a length as a number of 32 bits
pub cast_is : {E : Type 0} (r : Result ℕ E) (n len u : ℕ) → OkIff r (n < 4294967296) n → n ≡ len → u ≡ result_unwrap_or r 4294967295 → len < 2 ^ 32 → u ≡ len
cast_is {E = F} (Ok y) n len u h e is lt = is ∙ (OkIff-at_ok {E = F} (Ok y) (n < 4294967296) n y h refl).1 ∙ e
cast_is {E = F} (Err d) n len u h e is lt = absurd (OkIff-at_err {E = F} (Err d) (n < 4294967296) n d h refl (subst (λ k. k < 4294967296) (sym e) lt))
