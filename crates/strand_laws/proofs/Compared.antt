-- The strands of the written module behave like those of its original, for all that is compared.
use Rattle.headline.specs.World.{World}
use Rattle.headline.proofs.FromOpenings.{StartFits}
use Rattle.std.proofs.Common.{All, Bool, List, None, Option, Some, [], arith, false, length, refl, subst, suc, true, ℕ, ◌*◌, ◌∷◌, ◌≡◌, ◌≤◌}
use Rattle.std.specs.Prelude.{map, nat_lt, replicate}
use Rattle.wa_model.specs.Instantiation.{Opening, Piece, all_values, byte_piece, bytes_checked, elem_piece, elems_checked, fails_as, first_out, least_of, opened_by, opening, opens}
use Rattle.wa_model.specs.Plan.{Fits, Outcome, OutcomeFits}
use Rattle.wa_model.specs.Store.{Store}
use Rattle.wa_model.specs.declared.events.End.{End}
use Rattle.wa_types.specs.Base.{Base}
use Rattle.wa_types.specs.Memory.{page_size}
use Rattle.wa_types.specs.Modules.{all_memories, all_tables}
use Rattle.wa_types.specs.Pausing.{Settings}
use Rattle.wa_types.specs.Syntax.{Module}
use Rattle.wa_types.specs.declared.values.Value.{Value}
use Rattle.strand_laws.proofs.Between.{InsideAll}
use Rattle.strand_laws.specs.Strands.{Strand, StrandProgram, StrandsBehaveOn, StrandsCompared, StrandsNumbered, plan_of, with_source}
use Rattle.strand_laws.specs.Woven.{ends_strand}
use Rattle.strand_laws.proofs.EachWorld.{Family, FamilyLaws, world_at}
use Rattle.strand_laws.proofs.Beginnings.{EachFit, EachOut, strands_behave_on}

module _ (family : Family) (laws : FamilyLaws family) where
  abbrev wd : ℕ → World
  wd = world_at family

  abbrev m : Module
  m = family.original

  abbrev st : Settings
  st = family.settings

  abbrev which : List Bool
  which = family.which

  abbrev written : Module
  written = family.written

  abbrev g : StrandProgram
  g = family.program

  abbrev G : Store → Type 0
  G = family.good

  -- ---- from what is compared

  abbrev FailsAlone : Opening → Type 0
  FailsAlone (fails_as how) = ends_strand true how ≡ false
  FailsAlone (opens s) = Unit {0}

  abbrev made : ℕ → List (Option ℕ)
  made n = replicate n None

  alone_fails : FailsAlone (opening (Base m) g.globals)
  alone_fails = by (nat_lt 1024 (least_of (all_memories (Base m)))) (nat_lt 100000 (least_of (all_tables (Base m))))
    where
      by_bytes : (globals : List Value) (memory : List ℕ) (tb : List (Option ℕ)) (es : List (Piece (Option ℕ))) (bs : List (Piece ℕ)) (o : Option ℕ)
          → FailsAlone (bytes_checked globals memory tb es bs o)
      by_bytes globals memory tb es bs None = tt
      by_bytes globals memory tb es bs (Some k) = refl

      by_elems : (globals : List Value) (memory : List ℕ) (tb : List (Option ℕ)) (es : List (Piece (Option ℕ))) (bs : List (Piece ℕ)) (o : Option ℕ)
          → FailsAlone (elems_checked globals memory tb es bs o)
      by_elems globals memory tb es bs None = by_bytes globals memory tb es bs (first_out (length memory) 0 bs)
      by_elems globals memory tb es bs (Some k) = refl

      by : (a b : Bool) → FailsAlone (opened_by (Base m) (all_values g.globals (Base m)) (least_of (all_memories (Base m))) (least_of (all_tables (Base m))) a b)
      by true b = refl
      by false true = refl
      by false false =
          by_elems (all_values g.globals (Base m)) (replicate (least_of (all_memories (Base m)) * page_size) 0) (replicate (least_of (all_tables (Base m))) None)
          (map (elem_piece (all_values g.globals (Base m))) (Base m).elems) (map (byte_piece (all_values g.globals (Base m))) (Base m).segments)
          (first_out (length (made (least_of (all_tables (Base m))))) 0 (map (elem_piece (all_values g.globals (Base m))) (Base m).elems))

  fails_so : (how : End) → opening (Base m) g.globals ≡ fails_as how → ends_strand true how ≡ false
  fails_so how e = subst FailsAlone e alone_fails

  each_fit : (ss : List Strand) → All (λ (x : Strand). Fits m (plan_of g x)) ss → (EachFit family laws) ss
  each_fit [] h = tt
  each_fit (s ∷ ss) h = ((h 0 s (omega arith)).entries, each_fit ss (λ k d lt. h (suc k) d (let z = lt in omega arith)))

  each_in : (ss : List Strand) (n : ℕ) → least_of (all_memories (Base m)) * page_size ≤ n → All (λ (x : Strand). Fits m (plan_of g x)) ss → InsideAll ss n
  each_in [] n e h = tt
  each_in (s ∷ ss) n e h = (let f = (h 0 s (omega arith)).area in let i = f.inside in omega arith, each_in ss n e (λ k d lt. h (suc k) d (let z = lt in omega arith)))

  each_out : (i : ℕ) (oss : List (List Outcome)) → All (λ (os : List Outcome). All OutcomeFits os) oss → (EachOut family laws) i oss
  each_out i [] f = tt
  each_out i (os ∷ oss) f = (f 0 os (omega arith), each_out (suc i) oss (λ k d lt. f (suc k) d (let z = lt in omega arith)))

  -- THE LAW, for all that is compared
  pub strands_behave_compared : StartFits (wd 0) G → (oss : List (List Outcome)) (n : ℕ) → StrandsCompared st (with_source g m) oss n → StrandsNumbered st which (with_source g m) oss n
      → StrandsBehaveOn st which (with_source g m) written oss n
  strands_behave_compared sf oss n cmp nums =
      (strands_behave_on family laws) cmp.some sf fails_so
      (λ s e. each_in g.strands (length s.memory) (laws.opened_size s e) cmp.fits)
      (each_fit g.strands cmp.fits) oss (each_out 0 oss cmp.outcomes) n cmp.untouched nums
