-- A turn begins.
use Rattle.std.proofs.Common.{◌≡◌, ℕ, List, [], map, Option, Some, None, Bool, true, false, slice_get, slice_set, refl, sym, ap, ◌∙◌, append-nil}
use Rattle.std.specs.Option.{option_map}
use Rattle.std.proofs.lemmas.Option.{slice_get-map}
use Rattle.many_host.specs.Turns.{Teller, unless, due_of}
use Rattle.world_laws.proofs.Places.{set_same}
use Rattle.many_host.specs.ToldNotes.{NothingTold, TurnBegins}
use Rattle.many_host.proofs.Notes.{told_nothing}

pub nothing_told : NothingTold
nothing_told begun programs detaches ds = (refl, refl, refl)

due_is : (b : Bool) (due tick : ℕ) → unless b due ≡ Some tick → (b ≡ false) × (due ≡ tick)
due_is true due tick e = cc
due_is false due tick e = (refl, cc)

-- who is due at a tick
pub teller_due : (tellers : List Teller) (i due : ℕ) → slice_get (map due_of tellers) i ≡ Some (Some due) → (t : Teller) × (slice_get tellers i ≡ Some t) × (t.has_ended ≡ false) × (t.due ≡ due)
teller_due tellers i due there = by (slice_get tellers i) refl where
  by : (o : Option Teller) → slice_get tellers i ≡ o → (t : Teller) × (slice_get tellers i ≡ Some t) × (t.has_ended ≡ false) × (t.due ≡ due)
  by None e =
      let none : None ≡ Some (Some due) = sym (slice_get-map due_of tellers i ∙ ap (option_map due_of) e) ∙ there in
      absurd cc
  by (Some t) e =
      let some : Some (due_of t) ≡ Some (Some due) = sym (slice_get-map due_of tellers i ∙ ap (option_map due_of) e) ∙ there in
      let is = due_is t.has_ended t.due due cc in (t, e, is.0, is.1)

pub turn_begins : TurnBegins
turn_begins begun programs detaches ds es number i due lines tellers w tells program least =
    let d = teller_due tellers i due least.there in
    record {
      before = lines;
      mid = tellers;
      es = es;
      whole = tells;
      w = w;
      t = d.0;
      program = program;
      there = d.1;
      unfinished = d.2;
      due_is = d.3;
      next = least;
      turn = [];
      goes_on = tt;
      met = [];
      answers = d.0.answers;
      calls = (refl, refl, refl);
      made = sym (append-nil lines);
      after = sym (ap (slice_set tellers i) (told_nothing d.0 d.2) ∙ set_same tellers i d.0 d.1);
    }
