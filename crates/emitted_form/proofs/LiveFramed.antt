-- Frames of the policy `live` are what suspended stacks ask for.
use Rattle.std.proofs.Common.{◌≡◌, ℕ, suc, List, [], ◌∷◌, length, map, Some, Bool, true, All, refl, sym, ap, ◌∙◌, arith}
use Rattle.std.specs.Prelude.{slice_get}
use Rattle.std.proofs.lemmas.List.Elements.{All-cons, All-nil}
use Rattle.wa_types.specs.Base.{Base}
use Rattle.wa_types.specs.Frames.{Place, Saved}
use Rattle.wa_types.specs.Modules.{defined_at}
use Rattle.wa_types.specs.Pausing.{Numbered, Settings, is_told, save_live}
use Rattle.wa_types.specs.Syntax.{Func, Module}
use Rattle.wa_types.specs.Validity.{Valid}
use Rattle.run_theory.specs.Flat.{FlatFunc}
use Rattle.flat_laws.specs.Flatten.{flattened, names, slots}
use Rattle.guard_form.specs.Pieces.{first_piece, units}
use Rattle.slim_laws.specs.SlimModule.{AllSlimPieces, flat_terms}
use Rattle.slim_laws.proofs.UnitsPassed.{passing_law}
use Rattle.flat_laws.proofs.RuntimeModules.{base_flattened}
use Rattle.frame_laws.specs.Layout.{kept}
use Rattle.headline.specs.EmittedModule.{Framing, fields_of, pieces_in, places_in}
use Rattle.headline.specs.Framed.{Framed, FramedCalls}
use Rattle.headline.proofs.CallPoints.{base_saved}
use Rattle.headline.proofs.PairedFlat.{base_defined}
use Rattle.emitted_form.specs.LiveFraming.{LiveFraming}
use Rattle.emitted_form.proofs.PassingWeight.{passing_few, result_few}

-- all places are kept
pub without_gaps : (ps : List Place) → map (λ (p : Place). kept p.local p.ty) ps ≡ fields_of (λ y. true) ps
without_gaps [] = refl
without_gaps (p ∷ ps) = ap (λ fs. kept p.local p.ty ∷ fs) (without_gaps ps)

all_so : (xs : List ℕ) → All (λ y. true ≡ true) xs
all_so [] = All-nil (λ y. true ≡ true)
all_so (x ∷ xs) = All-cons (λ y. true ≡ true) x xs refl (all_so xs)

module _ (m : Module) (s : Settings) (which : List Bool) (frames : (index : ℕ) → Framing) (valid : Valid m)
    (slim : AllSlimPieces (Base m) which (places_in m s which) (pieces_in m s which frames)) (policy : s.policy ≡ save_live) (live : LiveFraming m s which frames) where
  one : (x : ℕ) (f : Func) → defined_at m x ≡ Some f → is_told (slice_get which x) ≡ true → (k place : ℕ) → slice_get (Numbered m s which f) k ≡ Some place → Framed m s which frames x f k place
  one x f is told k place number =
      let fr = live x f is told k place number in
      let size = ap (λ (z : FlatFunc). length z.locals) (sym (base_flattened m valid x f is)) in
      let cost = fr.cost in
      let pass = passing_few m x f (Numbered m s which f) in
      let ps = Numbered m s which f in
      let body = (flattened (Base m) x f).body in
      let last = result_few (flattened (Base m) x f).result in
      let sp = slim x f (base_defined m x ∙ is) told in
      let less = passing_law (flat_terms (Base m) ps x f) 0 (sp.out ∷ []) sp.out sp.here (first_piece ps 0 body) (frames x).pieces.first (units ps 0 body) (frames x).pieces.units sp.slim in
      record {
        codes = fr.codes;
        address = fr.address;
        index = fr.index ∙ size;
        scratch = fr.scratch ∙ ap suc size;
        keep = λ y. true;
        fields =
            fr.fields ∙ without_gaps (Saved m save_live f place) ∙ ap (λ z. fields_of (λ y. true) (Saved m z f place)) (sym policy)
            ∙ ap (fields_of (λ y. true)) (sym (base_saved m valid x f is s.policy place));
        own = λ y lt. refl;
        stacked = λ ops points. all_so (slots (names (Base m) f) ops);
        cost = omega arith;
      }

  pub live_framed : FramedCalls m s which frames
  live_framed = one
