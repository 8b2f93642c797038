-- Programs that were put back by their records can be hosted.
use Rattle.std.proofs.Common.{◌≡◌, ◌<◌, ◌^◌, All, ℕ, zero, suc, List, [], ◌∷◌, length, map, Some, Bool, slice_get, refl, sym, ap, ◌∙◌, subst}
use Rattle.std.proofs.lemmas.List.{length-map}
use Rattle.std.proofs.lemmas.List.Elements.{All-cons, All-head, All-nil, All-tail}
use Rattle.std.proofs.lemmas.Option.{same_Some}
use Rattle.wa_model.specs.declared.answers.Detach.{Detach}
use Rattle.world_model.specs.World as W
use Rattle.world_model.specs.World.{Device}
use Rattle.event_order.specs.declared.shows.Show.{Show}
use Rattle.event_order.specs.Looks.{looks_of}
use Rattle.many_host.specs.declared.host.Host.{Host}
use Rattle.many_host.specs.Hosts.{AreResumed, IsResumed}
use Rattle.many_host.specs.ToldNotes.{BeginsWorldFrom}
use Rattle.pause_host.specs.declared.program.Program.{Program}
use Rattle.script_model.specs.Transcript as T
use Rattle.snapshot_store.specs.Snapshots.{ProgramRecord, Snapshot}
use Rattle.transcript.specs.declared.events.Names.{Names}
use Rattle.transcript.specs.Printing.{names_of}
use Rattle.world_laws.specs.Snapshots.{From, from_record, from_records}
use Rattle.world_hosting.specs.declared.hosting.Timed.{Timed}
use Rattle.world_hosting.specs.declared.parting.Parted.{Parted}
use Rattle.world_hosting.specs.declared.resuming.Resumed.{Resumed}
use Rattle.world_hosting.specs.declared.staging.Staged.{Staged}
use Rattle.world_hosting.specs.Continued.{AreResumedAt, IsResumedAt}
use Rattle.world_hosting.specs.Parted.{AreParted, AreTimed, Begins, shows_from}
use Rattle.world_hosting.specs.Worlds.{Part, look_at, part_names, world_program, world_programs}
use Rattle.world_hosting.proofs.Begun.{begins_resumed}
use Rattle.world_hosting.proofs.SetUp.{own_at}

abbrev staged_of : List Resumed → List Staged
staged_of zs = map (λ (z : Resumed). z.staged) zs

abbrev programs_of : List Resumed → List Program
programs_of zs = map (λ (s : Staged). s.program) (staged_of zs)

abbrev dues_of : List Resumed → List ℕ
dues_of zs = map (λ (z : Resumed). z.due) zs

abbrev marks_of : List Resumed → List Bool
marks_of zs = map (λ (z : Resumed). z.ended) zs

-- The part, the record and the program of a place.
record ResumedAt (zs : List Resumed) (i : ℕ) (w : W.Program) (x : Program) (due : ℕ) (marked : Bool) : Type 0 where
  pub one : Part
  pub stands : ProgramRecord
  pub resumed : Resumed
  pub there : slice_get (staged_of zs) i ≡ Some resumed.staged
  pub world : from_record (world_program one) stands ≡ w
  pub program : resumed.staged.program ≡ x
  pub due_is : resumed.due ≡ due
  pub mark_is : resumed.ended ≡ marked
  pub is : IsResumedAt one stands resumed

resumed_at : (ps : List Part) (rs : List ProgramRecord) (zs : List Resumed) → AreResumedAt ps rs zs → (i : ℕ) (w : W.Program) (x : Program) (due : ℕ) (marked : Bool)
    → slice_get (from_records (world_programs ps) rs) i ≡ Some w → slice_get (programs_of zs) i ≡ Some x → slice_get (dues_of zs) i ≡ Some due → slice_get (marks_of zs) i ≡ Some marked
    → ResumedAt zs i w x due marked
resumed_at [] [] [] h i w x due marked ew ex ed em = cc
resumed_at [] [] (z ∷ zs) h i w x due marked ew ex ed em = absurd h
resumed_at [] (r ∷ rs) zs h i w x due marked ew ex ed em = absurd h
resumed_at (p ∷ ps) [] zs h i w x due marked ew ex ed em = absurd h
resumed_at (p ∷ ps) (r ∷ rs) [] h i w x due marked ew ex ed em = absurd h
resumed_at (p ∷ ps) (r ∷ rs) (z ∷ zs) h zero w x due marked ew ex ed em =
    record { one = p; stands = r; resumed = z; there = refl; world = same_Some _ w ew; program = same_Some _ x ex; due_is = same_Some _ due ed; mark_is = same_Some _ marked em; is = h.0 }
resumed_at (p ∷ ps) (r ∷ rs) (z ∷ zs) h (suc i) w x due marked ew ex ed em =
    let at = resumed_at ps rs zs h.1 i w x due marked ew ex ed em in
    record {
      one = at.one;
      stands = at.stands;
      resumed = at.resumed;
      there = at.there;
      world = at.world;
      program = at.program;
      due_is = at.due_is;
      mark_is = at.mark_is;
      is = at.is;
    }

-- as many of each
as_many : (ps : List Part) (rs : List ProgramRecord) (zs : List Resumed) → AreResumedAt ps rs zs → length zs ≡ length ps
as_many [] [] [] h = refl
as_many [] [] (z ∷ zs) h = absurd h
as_many [] (r ∷ rs) zs h = absurd h
as_many (p ∷ ps) [] zs h = absurd h
as_many (p ∷ ps) (r ∷ rs) [] h = absurd h
as_many (p ∷ ps) (r ∷ rs) (z ∷ zs) h = ap suc (as_many ps rs zs h.1)

pub as_wide : (ps : List Part) (rs : List ProgramRecord) (zs : List Resumed) → AreResumedAt ps rs zs → length (from_records (world_programs ps) rs) ≡ length ps
as_wide [] [] [] h = refl
as_wide [] [] (z ∷ zs) h = absurd h
as_wide [] (r ∷ rs) zs h = absurd h
as_wide (p ∷ ps) [] zs h = absurd h
as_wide (p ∷ ps) (r ∷ rs) [] h = absurd h
as_wide (p ∷ ps) (r ∷ rs) (z ∷ zs) h = ap suc (as_wide ps rs zs h.1)

same_names : (ps : List Part) (rs : List ProgramRecord) (zs : List Resumed) → AreResumedAt ps rs zs → map names_of (map (λ (s : Staged). s.names) (staged_of zs)) ≡ map part_names ps
same_names [] [] [] h = refl
same_names [] [] (z ∷ zs) h = absurd h
same_names [] (r ∷ rs) zs h = absurd h
same_names (p ∷ ps) [] zs h = absurd h
same_names (p ∷ ps) (r ∷ rs) [] h = absurd h
same_names (p ∷ ps) (r ∷ rs) (z ∷ zs) h =
    ap (λ (n : T.Names). n ∷ map names_of (map (λ (s : Staged). s.names) (staged_of zs))) h.0.names ∙ ap (λ (l : List T.Names). part_names p ∷ l) (same_names ps rs zs h.1)

many_programs : (zs : List Resumed) → length (programs_of zs) ≡ length zs
many_programs zs = length-map (staged_of zs) (λ (s : Staged). s.program) ∙ length-map zs (λ (z : Resumed). z.staged)

pub are_resumed : (ps : List Part) (rs : List ProgramRecord) (zs : List Resumed) → AreResumedAt ps rs zs
    → AreResumed (from_records (world_programs ps) rs) (shows_from 0 (staged_of zs)) (programs_of zs) (dues_of zs) (marks_of zs)
are_resumed ps rs zs h = record {
  wide = many_programs zs ∙ as_many ps rs zs h ∙ sym (as_wide ps rs zs h);
  each = λ i w x due marked ew ex ed em.
      let shows : List Show = shows_from 0 (staged_of zs) in
      let at = resumed_at ps rs zs h i w x due marked ew ex ed em in
      let is = at.is in
      let looks : map look_at at.one.text.shows ≡ looks_of i shows = ap (map look_at) (sym is.shows) ∙ sym (own_at (staged_of zs) i at.resumed.staged at.there) in
      subst (λ (v : W.Program). IsResumed v shows i x due marked) at.world
      (subst (λ (b : Bool). IsResumed (from_record (world_program at.one) at.stands) shows i x due b) at.mark_is
      (subst (λ (n : ℕ). IsResumed (from_record (world_program at.one) at.stands) shows i x n at.resumed.ended) at.due_is
      (subst (λ (y : Program). IsResumed (from_record (world_program at.one) at.stands) shows i y at.resumed.due at.resumed.ended) at.program (looks, is.goes))));
}

-- nothing that was told begins a run of the world
pub begins_none : (earlier : ℕ) (ps : List Part) (rs : List ProgramRecord) (zs : List Resumed) (detaches : List Detach) (ds : List Device) → AreResumedAt ps rs zs
    → BeginsWorldFrom earlier (from_records (world_programs ps) rs) detaches ds []
begins_none earlier ps rs zs detaches ds h =
    begins_resumed earlier (from_records (world_programs ps) rs) (shows_from 0 (staged_of zs)) (programs_of zs) (dues_of zs) (marks_of zs) detaches ds
    (length-map zs (λ (z : Resumed). z.due) ∙ sym (many_programs zs)) (length-map zs (λ (z : Resumed). z.ended) ∙ sym (many_programs zs)) (are_resumed ps rs zs h)

-- all of them are due early
pub all_early : (ps : List Part) (rs : List ProgramRecord) (zs : List Resumed) → AreResumedAt ps rs zs → All (λ (z : Resumed). z.due < 2 ^ 62) zs
all_early [] [] [] h = All-nil (λ (z : Resumed). z.due < 2 ^ 62)
all_early [] [] (z ∷ zs) h = absurd h
all_early [] (r ∷ rs) zs h = absurd h
all_early (p ∷ ps) [] zs h = absurd h
all_early (p ∷ ps) (r ∷ rs) [] h = absurd h
all_early (p ∷ ps) (r ∷ rs) (z ∷ zs) h = All-cons (λ (x : Resumed). x.due < 2 ^ 62) z zs h.0.early (all_early ps rs zs h.1)

-- by the events of a snapshot
pub begins_at : (parts : List Part) (s : Snapshot) (events : ℕ) (detaches : List Detach) (h : Host) (names : List Names) → s.events ≡ events
    → Begins events (from_records (world_programs parts) s.programs) parts detaches h names → Begins s.events (From s (world_programs parts)) parts detaches h names
begins_at parts s events detaches h names e b = subst (λ (n : ℕ). Begins n (From s (world_programs parts)) parts detaches h names) (sym e) b

-- ---- in parts

pub early_dues : (zs : List Resumed) (t : Timed) → AreTimed zs t → All (λ (z : Resumed). z.due < 2 ^ 62) zs → All (λ (due : ℕ). due < 2 ^ 62) t.dues.items
early_dues zs t timed early = subst (λ (l : List ℕ). All (λ (due : ℕ). due < 2 ^ 62) l) (sym timed.dues) (by zs early) where
  by : (xs : List Resumed) → All (λ (z : Resumed). z.due < 2 ^ 62) xs → All (λ (due : ℕ). due < 2 ^ 62) (dues_of xs)
  by [] h = All-nil (λ (due : ℕ). due < 2 ^ 62)
  by (x ∷ xs) h = All-cons (λ (due : ℕ). due < 2 ^ 62) x.due (dues_of xs) (All-head (λ (z : Resumed). z.due < 2 ^ 62) x xs h) (by xs (All-tail (λ (z : Resumed). z.due < 2 ^ 62) x xs h))

module _ (zs : List Resumed) (t : Timed) (x : Parted) (timed : AreTimed zs t) (parted : AreParted t.staged.items x) where
  programs_are : x.programs.items ≡ programs_of zs
  programs_are = parted.programs ∙ ap (map (λ (s : Staged). s.program)) timed.staged

  pub many_dues : length t.dues.items ≡ length x.programs.items
  many_dues = ap length timed.dues ∙ length-map zs (λ (z : Resumed). z.due) ∙ sym (many_programs zs) ∙ ap length (sym programs_are)

  pub many_marks : length t.ended.items ≡ length x.programs.items
  many_marks = ap length timed.ended ∙ length-map zs (λ (z : Resumed). z.ended) ∙ sym (many_programs zs) ∙ ap length (sym programs_are)

  pub few_programs : length x.programs.items ≡ length zs
  few_programs = ap length programs_are ∙ many_programs zs

  pub few_staged : length t.staged.items ≡ length zs
  few_staged = ap length timed.staged ∙ length-map zs (λ (z : Resumed). z.staged)

  pub parted_resumed : (ps : List Part) (rs : List ProgramRecord) → AreResumedAt ps rs zs
      → AreResumed (from_records (world_programs ps) rs) x.shows.items x.programs.items t.dues.items t.ended.items
  parted_resumed ps rs h =
      let shows : x.shows.items ≡ shows_from 0 (staged_of zs) = parted.shows ∙ ap (shows_from 0) timed.staged in
      subst (λ (l : List Bool). AreResumed (from_records (world_programs ps) rs) x.shows.items x.programs.items t.dues.items l) (sym timed.ended)
      (subst (λ (l : List ℕ). AreResumed (from_records (world_programs ps) rs) x.shows.items x.programs.items l (marks_of zs)) (sym timed.dues)
      (subst (λ (l : List Program). AreResumed (from_records (world_programs ps) rs) x.shows.items l (dues_of zs) (marks_of zs)) (sym programs_are)
      (subst (λ (l : List Show). AreResumed (from_records (world_programs ps) rs) l (programs_of zs) (dues_of zs) (marks_of zs)) (sym shows) (are_resumed ps rs zs h))))

  pub resumed_names : (ps : List Part) (rs : List ProgramRecord) → AreResumedAt ps rs zs → map names_of x.names.items ≡ map part_names ps
  resumed_names ps rs h = ap (map names_of) (parted.names ∙ ap (map (λ (s : Staged). s.names)) timed.staged) ∙ same_names ps rs zs h
