-- Strands that are set up one by one.
use Rattle.std.proofs.Common.{arith, ◌≡◌, ◌<◌, ◌≤◌, ◌+◌, ◌++◌, ℕ, zero, suc, List, [], ◌∷◌, length, map, take, drop, get_or, drop-cons, add-one, Option, Some, None, Ok, Bool, true, false, refl, sym, ap, ◌∙◌, subst, append_assoc, append-nil}
use Rattle.std.specs.Prelude.{if◌then◌else◌}
use Rattle.std.specs.Global.{Vec}
use Rattle.std.proofs.lemmas.List.{length-map, map-append, take_more}
use Rattle.wa_types.specs.Syntax.{Module}
use Rattle.wa_types.specs.Validity.{Valid}
use Rattle.pause_host.proofs.Making.{funcs_many}
use Rattle.strand_host.specs.declared.plan.StrandFault.{StrandFault}
use Rattle.strand_host.specs.declared.plan.StrandFault.TheVariants.{Memory, Overlap, Setup}
use Rattle.wa_model.specs.declared.answers.Area.{Area}
use Rattle.host_setup.specs.declared.faults.SetupFault.{SetupFault}
use Rattle.host_setup.specs.Views as S
use Rattle.strand_host.specs.declared.plan.StrandPart.{StrandPart}
use Rattle.strand_host.specs.declared.strands.Strand.{Strand}
use Rattle.strand_host.specs.StrandPlans.{AllSetUp, FailsFirst, entries_of, first_overlap, overlaps_one, set_up_of}
use Rattle.strand_host.specs.StrandSetups.{AllOfLength, AreAtStart, BlamesFirst, BlamesStrand, IsAtStart, items_of}

module _ {A : Type 0} where
  -- the next of a list
  pub front_is : (xs : List A) (i : ℕ) (x : A) → i < length xs → x ≡ get_or xs i x → drop i xs ≡ x ∷ drop (i + 1) xs
  front_is xs i x lt e = drop-cons xs i x lt ∙ ap (λ (y : A). y ∷ drop (suc i) xs) (sym e) ∙ ap (λ n. x ∷ drop n xs) (sym (add-one i))

  pub all_gone : (xs : List A) (i : ℕ) → length xs ≤ i → drop i xs ≡ []
  all_gone [] zero le = refl
  all_gone [] (suc i) le = refl
  all_gone (x ∷ xs) zero le = let no_way : ⊥ = omega (arith, le) in absurd no_way
  all_gone (x ∷ xs) (suc i) le = all_gone xs i (omega (arith, le))

  module _ {B : Type 0} (f : A → B) where
    pub mapped_on : (xs : List A) (i : ℕ) (x : A) (done new : List B) → i < length xs → x ≡ get_or xs i x → map f xs ≡ done ++ map f (drop i xs) → new ≡ done ++ f x ∷ []
        → map f xs ≡ new ++ map f (drop (i + 1) xs)
    mapped_on xs i x done new lt e before n =
        before ∙ ap (λ (ys : List A). done ++ map f ys) (front_is xs i x lt e) ∙ sym (append_assoc done (f x ∷ []) (map f (drop (i + 1) xs))) ∙ ap (λ (ys : List B). ys ++ map f (drop (i + 1) xs)) (sym n)

    pub mapped_end : (xs : List A) (i : ℕ) (done : List B) → length xs ≤ i → map f xs ≡ done ++ map f (drop i xs) → done ≡ map f xs
    mapped_end xs i done le before = sym (before ∙ ap (λ (ys : List A). done ++ map f ys) (all_gone xs i le) ∙ append-nil done)

-- one for each
pub mapped_counted : {A B : Type 0} (b : B) (xs : List A) (i : ℕ) (done new : List B) → i < length xs → map (λ (x : A). b) xs ≡ done ++ map (λ (x : A). b) (drop i xs) → new ≡ done ++ b ∷ []
    → map (λ (x : A). b) xs ≡ new ++ map (λ (x : A). b) (drop (i + 1) xs)
mapped_counted {A} b xs i done new lt before n = before ∙ ap (λ us. done ++ us) (next xs i lt) ∙ sym (append_assoc done (b ∷ []) (map (λ x. b) (drop (i + 1) xs))) ∙ ap (λ us. us ++ map (λ x. b) (drop (i + 1) xs)) (sym n)
  where
    next : (ys : List A) (j : ℕ) → j < length ys → map (λ (x : A). b) (drop j ys) ≡ b ∷ map (λ (x : A). b) (drop (j + 1) ys)
    next [] j l = let no_way : ⊥ = omega (arith, l) in absurd no_way
    next (y ∷ ys) zero l = refl
    next (y ∷ ys) (suc j) l = next ys j (omega (arith, l)) ∙ ap (λ k. b ∷ map (λ (x : A). b) (drop k (y ∷ ys))) (let z : suc (j + 1) ≡ suc j + 1 = omega arith in z)

-- ---- functions of entries

module _ (p : Module) (parts : List StrandPart) where
  abbrev pub Sofar : (i strand : ℕ) → List (List ℕ) → Type 0
  Sofar i strand done =
      ((fss : List (List ℕ)) → AllSetUp p (drop i parts) fss → AllSetUp p parts (done ++ fss)) × ((k : ℕ) (f : SetupFault) → FailsFirst p (drop i parts) k f → FailsFirst p parts (strand + k) f)

  pub set_up_on : (i strand : ℕ) (done : List (List ℕ)) (x : StrandPart) (fs : List ℕ) → i < length parts → x ≡ get_or parts i x → Sofar i strand done → set_up_of p x ≡ Ok fs
      → Sofar (i + 1) (strand + 1) (done ++ fs ∷ [])
  set_up_on i strand done x fs lt e s ok = (
    λ fss all.
        subst (AllSetUp p parts) (sym (append_assoc done (fs ∷ []) fss)) (s.0 (fs ∷ fss) (subst (λ (ys : List StrandPart). AllSetUp p ys (fs ∷ fss)) (sym (front_is parts i x lt e)) (ok, all))),
    λ k f fails.
        let z : strand + suc k ≡ (strand + 1) + k = omega arith in
        subst (λ n. FailsFirst p parts n f) z (s.1 (suc k) f (subst (λ (ys : List StrandPart). FailsFirst p ys (suc k) f) (sym (front_is parts i x lt e)) ((fs, ok), fails))),
  )

  pub set_up_fails : (i strand : ℕ) (done : List (List ℕ)) (x : StrandPart) (f : SetupFault) → i < length parts → x ≡ get_or parts i x → Sofar i strand done → S.Blames f (set_up_of p x)
      → FailsFirst p parts strand f
  set_up_fails i strand done x f lt e s blames =
      let z : strand + 0 ≡ strand = omega arith in
      subst (λ n. FailsFirst p parts n f) z (s.1 0 f (subst (λ (ys : List StrandPart). FailsFirst p ys 0 f) (sym (front_is parts i x lt e)) blames))

  pub set_up_all : (i strand : ℕ) (done : List (List ℕ)) → length parts ≤ i → Sofar i strand done → AllSetUp p parts done
  set_up_all i strand done le s = subst (AllSetUp p parts) (append-nil done) (s.0 [] (subst (λ (ys : List StrandPart). AllSetUp p ys []) (sym (all_gone parts i le)) refl))

module _ (p : Module) (parts : List StrandPart) where
  pub set_up_next : (i strand : ℕ) (all new : List (Vec ℕ)) (x : StrandPart) (v : Vec ℕ) → i < length parts → x ≡ get_or parts i x → Sofar p parts i strand (items_of all) → set_up_of p x ≡ Ok v.items
      → new ≡ all ++ v ∷ [] → Sofar p parts (i + 1) (strand + 1) (items_of new)
  set_up_next i strand all new x v lt e s ok n =
      subst (Sofar p parts (i + 1) (strand + 1)) (sym (ap items_of n ∙ map-append (λ (u : Vec ℕ). u.items) all (v ∷ []))) (set_up_on p parts i strand (items_of all) x v.items lt e s ok)

  -- a strand that fails is the first
  pub fails_there : (i strand : ℕ) (done : List (List ℕ)) (x : StrandPart) (fault : StrandFault) → i < length parts → x ≡ get_or parts i x → Sofar p parts i strand done
      → BlamesStrand (set_up_of p x) strand fault → BlamesFirst p parts fault
  fails_there i strand done x Memory lt e s b = tt
  fails_there i strand done x (Setup n f) lt e s b = subst (λ m. FailsFirst p parts m f) (sym b.0) (set_up_fails p parts i strand done x f lt e s b.1)
  fails_there i strand done x (Overlap n) lt e s b = absurd b

-- one function for each entry
pub lengths_of : (p : Module) → Valid p → (parts : List StrandPart) (fss : List (List ℕ)) → AllSetUp p parts fss → AllOfLength parts fss
lengths_of p v [] [] h = tt
lengths_of p v [] (fs ∷ fss) h = let no_way : ⊥ = cc in absurd no_way
lengths_of p v (s ∷ ss) [] h = absurd h
lengths_of p v (s ∷ ss) (fs ∷ fss) h = (funcs_many p v s.area (entries_of s) fs h.0 ∙ length-map s.entries.items S.entry_of, lengths_of p v ss fss h.1)

-- ---- areas

pub overlap_on : (areas : List Area) (i : ℕ) (a : Area) (result : _) → i < length areas → a ≡ get_or areas i a → overlaps_one (take i areas) a ≡ false
    → result ≡ first_overlap (take i areas) i (drop i areas) → result ≡ first_overlap (take (i + 1) areas) (i + 1) (drop (i + 1) areas)
overlap_on areas i a result lt e none before =
    before
    ∙ ap (first_overlap (take i areas) i) (front_is areas i a lt e)
    ∙ ap (λ (b : Bool). if b then Some i else first_overlap (take i areas ++ a ∷ []) (suc i) (drop (i + 1) areas)) none
    ∙ ap (λ (x : Area). first_overlap (take i areas ++ x ∷ []) (suc i) (drop (i + 1) areas)) e
    ∙ ap (λ (xs : List Area). first_overlap xs (suc i) (drop (i + 1) areas)) (sym (take_more areas i a lt))
    ∙ ap (λ n. first_overlap (take (i + 1) areas) n (drop (i + 1) areas)) (sym (add-one i))

pub overlap_here : (areas : List Area) (i : ℕ) (a : Area) (result : _) → i < length areas → a ≡ get_or areas i a → overlaps_one (take i areas) a ≡ true
    → result ≡ first_overlap (take i areas) i (drop i areas) → result ≡ Some i
overlap_here areas i a result lt e some before =
    before ∙ ap (first_overlap (take i areas) i) (front_is areas i a lt e) ∙ ap (λ (b : Bool). if b then Some i else first_overlap (take i areas ++ a ∷ []) (suc i) (drop (i + 1) areas)) some

pub overlap_none : (areas : List Area) (i : ℕ) (result : _) → length areas ≤ i → result ≡ first_overlap (take i areas) i (drop i areas) → result ≡ None
overlap_none areas i result le before = before ∙ ap (first_overlap (take i areas) i) (all_gone areas i le)

-- ---- strands at their start

abbrev pub Starting : List StrandPart → List (List ℕ) → List StrandPart → List (List ℕ) → List (Option Strand) → Type 0
Starting parts funcs rest left done = ((xs : List (Option Strand)) → AreAtStart rest left xs → AreAtStart parts funcs (done ++ xs)) × AllOfLength rest left

pub start_on : (parts : List StrandPart) (funcs : List (List ℕ)) (rest rest' : List StrandPart) (left left' : List (List ℕ)) (done new : List (Option Strand)) (s : StrandPart) (fs : List ℕ) (x : Strand)
    → Starting parts funcs rest left done → rest ≡ s ∷ rest' → left ≡ fs ∷ left' → IsAtStart s fs x → new ≡ done ++ Some x ∷ [] → Starting parts funcs rest' left' new
start_on parts funcs rest rest' left left' done new s fs x st er el at en =
    let all : AllOfLength (s ∷ rest') (fs ∷ left') = subst (λ (ys : List (List ℕ)). AllOfLength (s ∷ rest') ys) el (subst (λ (ys : List StrandPart). AllOfLength ys left) er st.1) in (
      λ xs h.
          subst (λ (ys : List (Option Strand)). AreAtStart parts funcs (ys ++ xs)) (sym en)
          (subst (AreAtStart parts funcs) (sym (append_assoc done (Some x ∷ []) xs))
          (st.0 (Some x ∷ xs)
          (subst (λ (ys : List StrandPart). AreAtStart ys left (Some x ∷ xs)) (sym er) (subst (λ (ys : List (List ℕ)). AreAtStart (s ∷ rest') ys (Some x ∷ xs)) (sym el) (at, h))))),
      all.1,
    )

pub start_long : (rest : List StrandPart) (left : List (List ℕ)) (s : StrandPart) (rest' : List StrandPart) (fs : List ℕ) (left' : List (List ℕ)) → AllOfLength rest left → rest ≡ s ∷ rest' → left ≡ fs ∷ left'
    → length fs ≡ length s.entries.items
start_long rest left s rest' fs left' h er el =
    (subst (λ (ys : List (List ℕ)). AllOfLength (s ∷ rest') ys) el (subst (λ (ys : List StrandPart). AllOfLength ys left) er h)).0

pub start_some : {C : Type 0} (rest : List StrandPart) (left : List (List ℕ)) (fs : List ℕ) (left' : List (List ℕ)) → AllOfLength rest left → rest ≡ [] → left ≡ fs ∷ left' → C
start_some rest left fs left' h er el = absurd (subst (λ (ys : List (List ℕ)). AllOfLength [] ys) el (subst (λ (ys : List StrandPart). AllOfLength ys left) er h))

pub start_all : (parts : List StrandPart) (funcs : List (List ℕ)) (rest : List StrandPart) (left : List (List ℕ)) (done : List (Option Strand)) → Starting parts funcs rest left done → left ≡ []
    → AreAtStart parts funcs done
start_all parts funcs rest left done st el = by rest (subst (λ (ys : List (List ℕ)). Starting parts funcs rest ys done) el st)
  where
    by : (rest : List StrandPart) → Starting parts funcs rest [] done → AreAtStart parts funcs done
    by [] s = subst (AreAtStart parts funcs) (append-nil done) (s.0 [] refl)
    by (r ∷ rs) s = absurd s.1

pub none_is : {X : Type 0} (o : Option X) → ((x : X) → o ≡ Some x → ⊥) → o ≡ None
none_is None h = refl
none_is (Some x) h = absurd (h x refl)
