-- Programs that are put back one after another, each where its record has it.
use Rattle.std.proofs.Common.{◌≡◌, ◌<◌, ℕ, suc, List, [], ◌∷◌, ◌++◌, length, map, drop, get_or, refl, sym, ap, ◌∙◌, subst, arith, append_assoc, length-append}
use Rattle.std.specs.List.{AllZip}
use Rattle.std.specs.Prelude.{Result, Err}
use Rattle.std.proofs.lemmas.List.{get_or-map, length-map}
use Rattle.wa_types.specs.declared.syntax.Module.{Module}
use Rattle.pause_host.specs.declared.faults.ThawFault.{ThawFault}
use Rattle.pause_host.specs.declared.faults.ThawFault.TheVariants.{Unfit}
use Rattle.snapshot_store.specs.Snapshots.{ProgramRecord, Snapshot}
use Rattle.snapshot_store.specs.Views.{record_of}
use Rattle.snapshot_store.specs.declared.snapshot.ProgramRecord.{ProgramRecord as RecordValue}
use Rattle.script_command.specs.declared.programs.Planned.{Planned}
use Rattle.script_command.specs.Views.{CanStage, part_of, parts_of}
use Rattle.script_command.proofs.StagedParts.{NextProgram, goes_on, next_at, none_behind, zip_long, zip_more}
use Rattle.world_hosting.specs.Continued.{AreResumedAt, IsResumedAt, Resumes}
use Rattle.world_hosting.specs.Suiting.{RecordSuits, SnapshotSuits}
use Rattle.world_hosting.specs.Worlds.{Part, world_program, world_programs}
use Rattle.world_hosting.specs.declared.resuming.Resumed.{Resumed}
use Rattle.script_command.specs.SnapshotViews.{StandForEach}

-- a record suits a part of a script
abbrev pub PartSuits : Part → ProgramRecord → Type 0
PartSuits x r = RecordSuits (world_program x) r

-- Of the programs that are planned over these modules some stand for their records, and the others are to come.
pub record Resuming (modules : List Module) (planned rest : List Planned) (records : List ProgramRecord) (resumed : List Resumed) : Type 0 where
  pub parts : List Part
  pub told : List ProgramRecord
  pub left : List Module
  pub to_come : List ProgramRecord
  pub are : AreResumedAt parts told resumed
  pub suit : AllZip PartSuits parts told
  pub left_is : left ≡ drop (length resumed) modules
  pub to_come_is : to_come ≡ drop (length resumed) records
  pub whole : parts_of modules planned ≡ parts ++ parts_of left rest
  pub records_are : records ≡ told ++ to_come
  pub each : AllZip CanStage left rest
  pub many : length to_come ≡ length rest

pub none_resumed : (modules : List Module) (planned : List Planned) (records : List ProgramRecord) (resumed : List Resumed) → resumed ≡ [] → AllZip CanStage modules planned
    → length records ≡ length planned → Resuming modules planned planned records resumed
none_resumed modules planned records resumed none each many = subst (Resuming modules planned planned records) (sym none) (record {
  parts = [];
  told = [];
  left = modules;
  to_come = records;
  are = tt;
  suit = tt;
  left_is = refl;
  to_come_is = refl;
  whole = refl;
  records_are = refl;
  each = each;
  many = many;
})

-- ---- lists in step

are_more : (xs : List Part) (rs : List ProgramRecord) (zs : List Resumed) (x : Part) (r : ProgramRecord) (z : Resumed) → AreResumedAt xs rs zs → IsResumedAt x r z
    → AreResumedAt (xs ++ x ∷ []) (rs ++ r ∷ []) (zs ++ z ∷ [])
are_more [] [] [] x r z h is = (is, tt)
are_more (y ∷ xs) (q ∷ rs) (w ∷ zs) x r z h is = (h.0, are_more xs rs zs x r z h.1 is)
are_more [] [] (w ∷ zs) x r z h is = absurd h
are_more [] (q ∷ rs) zs x r z h is = absurd h
are_more (y ∷ xs) [] zs x r z h is = absurd h
are_more (y ∷ xs) (q ∷ rs) [] x r z h is = absurd h

-- what stands behind as many in two lists
zip_here : {A B : Type 0} (R : A → B → Type 0) (xs : List A) (ys : List B) (x : A) (y : B) (more : List A) (rest : List B) → AllZip R xs ys → AllZip R (xs ++ x ∷ more) (ys ++ y ∷ rest) → R x y
zip_here R [] [] x y more rest in_step h = h.0
zip_here R [] (b ∷ ys) x y more rest in_step h = absurd in_step
zip_here R (a ∷ xs) [] x y more rest in_step h = absurd in_step
zip_here R (a ∷ xs) (b ∷ ys) x y more rest in_step h = zip_here R xs ys x y more rest in_step.1 h.1

pub suits_parts : (xs : List Part) (rs : List ProgramRecord) → AllZip RecordSuits (world_programs xs) rs → AllZip PartSuits xs rs
suits_parts [] [] h = tt
suits_parts [] (r ∷ rs) h = absurd h
suits_parts (x ∷ xs) [] h = absurd h
suits_parts (x ∷ xs) (r ∷ rs) h = (h.0, suits_parts xs rs h.1)

pub parts_suit : (xs : List Part) (rs : List ProgramRecord) → AllZip PartSuits xs rs → AllZip RecordSuits (world_programs xs) rs
parts_suit [] [] h = tt
parts_suit [] (r ∷ rs) h = absurd h
parts_suit (x ∷ xs) [] h = absurd h
parts_suit (x ∷ xs) (r ∷ rs) h = (h.0, parts_suit xs rs h.1)

-- ---- one program more

module _ (modules : List Module) (planned : List Planned) (p : Planned) (rest : List Planned) (records : List ProgramRecord) (resumed : List Resumed) where
  pub next : Resuming modules planned (p ∷ rest) records resumed → NextProgram CanStage modules (length resumed) p
  next s = next_at CanStage modules (length resumed) p rest s.left s.left_is s.each

  pub here_can : Resuming modules planned (p ∷ rest) records resumed → (v : Module) → v ≡ get_or modules (length resumed) v → CanStage v p
  here_can s v e = (next s).can v e

  -- there is a record
  pub next_record : Resuming modules planned (p ∷ rest) records resumed → length resumed < length records
  next_record s = by s.to_come s.to_come_is s.many where
    by : (to_come : List ProgramRecord) → to_come ≡ drop (length resumed) records → length to_come ≡ suc (length rest) → length resumed < length records
    by [] is many = absurd (omega (arith, many))
    by (r ∷ rs) is many = (goes_on (length resumed) records r rs is).within

  -- it stands for its record
  pub one_more : Resuming modules planned (p ∷ rest) records resumed → (v : Module) → v ≡ get_or modules (length resumed) v → (r : ProgramRecord) → r ≡ get_or records (length resumed) r
      → (z : Resumed) → RecordSuits (world_program (part_of v p)) r → IsResumedAt (part_of v p) r z → Resuming modules planned rest records (resumed ++ z ∷ [])
  one_more s v ve r re z suits is = by s.left s.left_is s.each s.whole s.to_come s.to_come_is s.many s.records_are where
    by : (left : List Module) → left ≡ drop (length resumed) modules → AllZip CanStage left (p ∷ rest) → parts_of modules planned ≡ s.parts ++ parts_of left (p ∷ rest)
        → (to_come : List ProgramRecord) → to_come ≡ drop (length resumed) records → length to_come ≡ suc (length rest) → records ≡ s.told ++ to_come
        → Resuming modules planned rest records (resumed ++ z ∷ [])
    by [] l each whole to_come t many are = absurd each
    by (w ∷ ms) l each whole [] t many are = absurd (omega (arith, many))
    by (w ∷ ms) l each whole (q ∷ qs) t many are =
        let g = goes_on (length resumed) modules w ms l in
        let k = goes_on (length resumed) records q qs t in
        let same : v ≡ w = ve ∙ g.item v in
        let alike : r ≡ q = re ∙ k.item r in
        let n : suc (length resumed) ≡ length (resumed ++ z ∷ []) = omega (arith, length-append resumed (z ∷ [])) in
        let here : IsResumedAt (part_of w p) q z = subst (λ (u : Module). IsResumedAt (part_of u p) q z) same (subst (λ (u : ProgramRecord). IsResumedAt (part_of v p) u z) alike is) in
        let suit : PartSuits (part_of w p) q = subst (λ (u : Module). PartSuits (part_of u p) q) same (subst (λ (u : ProgramRecord). PartSuits (part_of v p) u) alike suits) in
        record {
          parts = s.parts ++ part_of w p ∷ [];
          told = s.told ++ q ∷ [];
          left = ms;
          to_come = qs;
          are = are_more s.parts s.told resumed (part_of w p) q z s.are here;
          suit = zip_more PartSuits s.parts s.told (part_of w p) q s.suit suit;
          left_is = sym g.behind ∙ ap (λ (i : ℕ). drop i modules) n;
          to_come_is = sym k.behind ∙ ap (λ (i : ℕ). drop i records) n;
          whole = whole ∙ sym (append_assoc s.parts (part_of w p ∷ []) (parts_of ms rest));
          records_are = are ∙ sym (append_assoc s.told (q ∷ []) qs);
          each = each.1;
          many = omega (arith, many);
        }

  -- or its record doesn't suit it
  pub one_unfit : Resuming modules planned (p ∷ rest) records resumed → (v : Module) → v ≡ get_or modules (length resumed) v → (r : ProgramRecord) → r ≡ get_or records (length resumed) r
      → (RecordSuits (world_program (part_of v p)) r → ⊥) → AllZip RecordSuits (world_programs (parts_of modules planned)) records → ⊥
  one_unfit s v ve r re never all = by s.left s.left_is s.each s.whole s.to_come s.to_come_is s.many s.records_are where
    by : (left : List Module) → left ≡ drop (length resumed) modules → AllZip CanStage left (p ∷ rest) → parts_of modules planned ≡ s.parts ++ parts_of left (p ∷ rest)
        → (to_come : List ProgramRecord) → to_come ≡ drop (length resumed) records → length to_come ≡ suc (length rest) → records ≡ s.told ++ to_come → ⊥
    by [] l each whole to_come t many are = absurd each
    by (w ∷ ms) l each whole [] t many are = absurd (omega (arith, many))
    by (w ∷ ms) l each whole (q ∷ qs) t many are =
        let g = goes_on (length resumed) modules w ms l in
        let k = goes_on (length resumed) records q qs t in
        let same : v ≡ w = ve ∙ g.item v in
        let alike : r ≡ q = re ∙ k.item r in
        let zipped : AllZip PartSuits (s.parts ++ part_of w p ∷ parts_of ms rest) (s.told ++ q ∷ qs) =
        subst (λ (rs : List ProgramRecord). AllZip PartSuits (s.parts ++ part_of w p ∷ parts_of ms rest) rs) are
        (subst (λ (xs : List Part). AllZip PartSuits xs records) whole (suits_parts (parts_of modules planned) records all)) in
        let suit : PartSuits (part_of w p) q = zip_here PartSuits s.parts s.told (part_of w p) q (parts_of ms rest) qs s.suit zipped in
        never (subst (λ (u : Module). PartSuits (part_of u p) r) (sym same) (subst (λ (u : ProgramRecord). PartSuits (part_of w p) u) (sym alike) suit))

-- an item, by a place that is that one
pub place_at : {A : Type 0} (xs : List A) (x : A) (k n l : ℕ) → x ≡ get_or xs k x → k ≡ n → n ≡ l → x ≡ get_or xs l x
place_at xs x k n l e a b = e ∙ ap (λ (i : ℕ). get_or xs i x) (a ∙ b)

-- a record, as plain data
pub record_at : (rs : List RecordValue) (r : RecordValue) (i : ℕ) → i < length (map record_of rs) → r ≡ get_or rs i r → record_of r ≡ get_or (map record_of rs) i (record_of r)
record_at rs r i h e = sym (get_or-map record_of rs i r (record_of r) (omega (arith, h, length-map rs record_of)) ∙ ap record_of (sym e))

-- why a program isn't put back
pub unfit_of : {T : Type 0} (x : Part) (r : ProgramRecord) (fault : ThawFault) → Resumes x r (Err fault) → ◌≡◌ {A = Result T ThawFault} (Err fault) (Err Unfit) → RecordSuits (world_program x) r → ⊥
unfit_of {T = T} x r fault h e =
    let is : fault ≡ Unfit = cc in
    subst (λ (f : ThawFault). Resumes x r (Err f)) is h

-- those to come, as they are held
pub turned : (modules : List Module) (planned rest behind : List Planned) (p : Planned) (records : List ProgramRecord) (resumed : List Resumed) → rest ≡ p ∷ behind
    → Resuming modules planned rest records resumed → Resuming modules planned (p ∷ behind) records resumed
turned modules planned rest behind p records resumed e s = subst (λ (ps : List Planned). Resuming modules planned ps records resumed) e s

pub all_resumed : (modules : List Module) (planned rest : List Planned) (records : List ProgramRecord) (resumed : List Resumed) → rest ≡ [] → Resuming modules planned rest records resumed
    → StandForEach (parts_of modules planned) records resumed
all_resumed modules planned rest records resumed none s = by t.left t.each t.whole t.to_come t.many t.records_are where
  t : Resuming modules planned [] records resumed
  t = subst (λ (ps : List Planned). Resuming modules planned ps records resumed) none s

  by : (left : List Module) → AllZip CanStage left [] → parts_of modules planned ≡ t.parts ++ parts_of left [] → (to_come : List ProgramRecord) → length to_come ≡ 0
      → records ≡ t.told ++ to_come → StandForEach (parts_of modules planned) records resumed
  by [] each whole [] many are =
      let parts_are = whole ∙ none_behind t.parts in
      let told_are = are ∙ none_behind t.told in
      record {
        suit = subst (λ (xs : List Part). AllZip RecordSuits (world_programs xs) records) (sym parts_are)
            (subst (λ (rs : List ProgramRecord). AllZip RecordSuits (world_programs t.parts) rs) (sym told_are) (parts_suit t.parts t.told t.suit));
        are = subst (λ (xs : List Part). AreResumedAt xs records resumed) (sym parts_are)
            (subst (λ (rs : List ProgramRecord). AreResumedAt t.parts rs resumed) (sym told_are) t.are);
      }
  by [] each whole (r ∷ rs) many are = absurd (omega (arith, many))
  by (w ∷ ms) each whole to_come many are = absurd each

-- ---- as many records as programs

pub parts_long : (vs : List Module) (ps : List Planned) → AllZip CanStage vs ps → length (parts_of vs ps) ≡ length ps
parts_long [] [] h = refl
parts_long [] (p ∷ ps) h = absurd h
parts_long (v ∷ vs) [] h = absurd h
parts_long (v ∷ vs) (p ∷ ps) h = ap suc (parts_long vs ps h.1)

pub suits_long : (vs : List Module) (ps : List Planned) (s : Snapshot) → AllZip CanStage vs ps → SnapshotSuits (world_programs (parts_of vs ps)) s → length s.programs ≡ length ps
suits_long vs ps s can suits =
    let zipped = zip_long RecordSuits (world_programs (parts_of vs ps)) s.programs suits.records in
    let parts = parts_long vs ps can in
    let programs = length-map (parts_of vs ps) world_program in
    omega (arith, zipped, parts, programs)
