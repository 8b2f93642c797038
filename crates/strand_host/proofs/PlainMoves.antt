-- What a strand tells next, where there are no mailboxes.
use Rattle.std.proofs.Common.{◌≡◌, ℕ, Bool, true, false, List, [], ◌∷◌, Option, Some, None, All, sym, subst}
use Rattle.std.specs.Prelude.{MatchBool}
use Rattle.std.proofs.lemmas.List.Elements.{All-nil, All-tail}
use Rattle.wa_types.specs.declared.values.Value.{Value}
use Rattle.wa_types.specs.Validity.{same_name}
use Rattle.wa_model.specs.declared.events.End.TheVariants as E
use Rattle.wa_model.specs.Outside.{AnswerLine, Call}
use Rattle.wa_model.specs.Plan.{Outcome, given, refused}
use Rattle.wa_model.specs.Blocking as B
use Rattle.wa_model.specs.Store.{Store}
use Rattle.world_model.specs.World.{Device, MeetsBound, MeetsLine, Program, call_in, import_names, name_at}
use Rattle.interp.specs.Instance.{Waits}
use Rattle.host_laws.specs.Places.{Place, has_ended, nowhere, stands}
use Rattle.host_laws.specs.Supplies.{Supply, Takes, bound_to}
use Rattle.pause_host.specs.Mailing.{MailSupply, without_mail}
use Rattle.pause_host.specs.Moves.{ComesFrom, HasShortPokes}
use Rattle.pause_host.proofs.Mailings.{plain_takes}
use Rattle.pause_host.specs.declared.stages.Moved.{Moved}
use Rattle.strand_host.specs.StrandMoves.{MovesOn}

-- ---- answer lines

line_taken : (import : ℕ) (name : List ℕ) (lines : List AnswerLine) (o : Outcome) (lines' : List AnswerLine) → MeetsLine import name lines o lines' → All HasShortPokes lines → All HasShortPokes lines'
line_taken import name [] o lines' h k = subst (All HasShortPokes) (sym h.1) (All-nil HasShortPokes)
line_taken import name (l ∷ ls) o lines' h k = by_name (same_name l.import name) h
  where
    by_name : (b : Bool) → MatchBool b ((o ≡ given l.answer) × (lines' ≡ ls)) ((o ≡ refused (E.OtherImport import l.import)) × (lines' ≡ l ∷ ls)) → All HasShortPokes lines'
    by_name true m = subst (All HasShortPokes) (sym m.1) (All-tail HasShortPokes l ls k)
    by_name false m = subst (All HasShortPokes) (sym m.1) k

module _ (w : Program) where
  bound_taken : (import : ℕ) (args : List Value) (bound : Option (List ℕ)) (lines lines' : List AnswerLine) (ds ds' : List Device) (o : Outcome)
      → MeetsBound w.source import args bound lines ds o lines' ds' → All HasShortPokes lines → All HasShortPokes lines'
  bound_taken import args (Some name) lines lines' ds ds' o h k = subst (All HasShortPokes) (sym h.1) k
  bound_taken import args None lines lines' ds ds' o h k = line_taken import (name_at (import_names w.source) import) lines o lines' h.0 k

  takes_short : (c : Option Call) (old : Supply) (os : List Outcome) (new : Supply) → Takes w c old os new → All HasShortPokes old.lines → All HasShortPokes new.lines
  takes_short None old os new t k = subst (λ (z : Supply). All HasShortPokes z.lines) (sym t.1) k
  takes_short (Some c) old os new t k = bound_taken c.import c.args (bound_to w c.import) old.lines new.lines old.devices new.devices t.0 t.2.meets k

  pub plain_moves : (from : Place) (left used : ℕ) (m : Moved) (old new : MailSupply) (l : B.Left) (s : Store) (waits : Waits) → old.amid.boxes ≡ [] → ComesFrom w from left used m old new l s waits
      → MovesOn w from left used m (without_mail old) (without_mail new) l s waits
  plain_moves (stands ready h) left used m old new l s waits none c =
      let t = c.tells in
      let takes : Takes w (call_in c.note.event) (without_mail old) t.outcomes (without_mail new) = plain_takes w (call_in c.note.event) old t.outcomes new none t.takes in
      record {
        note = c.note;
        event_is = c.event_is;
        store_is = c.store_is;
        tells = record { outcomes = t.outcomes; takes = takes; within = t.within; lands = t.lands };
        pokes = takes_short (call_in c.note.event) (without_mail old) t.outcomes (without_mail new) takes;
      }
  plain_moves (has_ended how) left used m old new l s waits none c = absurd c.tells
  plain_moves nowhere left used m old new l s waits none c = absurd c.tells
