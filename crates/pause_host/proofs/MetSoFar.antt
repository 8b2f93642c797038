-- What calls have met is what a world with mailboxes has them meet.
use Rattle.std.proofs.Common.{◌≡◌, ◌<◌, ◌^◌, ◌⊎◌, inl, inr, ℕ, List, [], ◌∷◌, ◌++◌, map, Option, Some, None, refl, sym, ap, ◌∙◌, subst, append_assoc, append-nil, arith}
use Rattle.std.specs.List.{find}
use Rattle.std.specs.Option.{option_map}
use Rattle.std.proofs.lemmas.List.{map-append}
use Rattle.wa_types.specs.declared.values.Value.{Value}
use Rattle.wa_types.specs.declared.values.Value.TheVariants as V
use Rattle.wa_model.specs.declared.events.End.TheVariants.{NoDevice}
use Rattle.wa_model.specs.Outside.{AnswerLine, Call}
use Rattle.wa_model.specs.Plan.{Outcome, refused}
use Rattle.world_model.specs.World.{Program, base_names, call_in, name_at}
use Rattle.mailbox_device.specs.Mail as B
use Rattle.mailbox_device.specs.Mail.{Box}
use Rattle.mail_laws.specs.Mailboxes as M
use Rattle.mail_laws.specs.Mailboxes.{CallsMeet, IsAwaited, Meets, MeetsBound, MeetsBox, MeetsNamed, MeetsValues, Midst, in_range, mailed}
use Rattle.mail_laws.specs.Told.{Amid, KeepsPromises, midst_by, number_of, pending, promise, promised, receive_of}
use Rattle.mail_laws.proofs.CallsTold.{at_promised, find_promised, keeps_first, keeps_last}
use Rattle.mail_laws.proofs.TurnsTold.{calls_free, calls_more}
use Rattle.host_laws.specs.Supplies.{bound_to}
use Rattle.pause_host.specs.Mailing.{AsksBound, AsksBox, AsksNamed, AsksValues, MailSupply, MetSoFar, NothingMetYet, OneMoreMet, TakesMail}

sent_promised : (will : ℕ → ℕ) (v : ℕ) (b : Box) (ws : List ℕ) → M.sent_past v (promised will b) (map (promise will) ws) ≡ promised will (B.sent_past v b ws)
sent_promised will v b [] = refl
sent_promised will v b (j ∷ js) = refl

small_stays : (v : ℕ) → v < 2 ^ 32 → in_range v ≡ v
small_stays v h = omega arith

awaited_by : (will : ℕ → ℕ) (v : ℕ) (ws : List ℕ) → v < 2 ^ 32 → KeepsPromises will (B.receiver v ws) → IsAwaited v (map (promise will) ws)
awaited_by will v [] fits h = tt
awaited_by will v (j ∷ js) fits h = h.0 ∙ sym (small_stays v fits)

numbers : (will : ℕ → ℕ) (v : ℕ) (ws : List ℕ) → map number_of (B.receiver v ws) ≡ M.receiver (map (promise will) ws)
numbers will v [] = refl
numbers will v (j ∷ js) = refl

-- ---- one call

-- It met an outcome that is known, or is the receive whose value isn't.
record OneMet (w : Program) (i : ℕ) (import : ℕ) (args : List Value) (lines : List AnswerLine) (m : Amid) (o : Outcome) (lines' : List AnswerLine) (m' : Amid) : Type 0 where
  known : List Outcome
  outcomes : o ∷ [] ≡ known ++ pending 0 m'.receive
  this : (will : ℕ → ℕ) → Outcome
  is_this : (will : ℕ → ℕ) → known ++ pending (will i) m'.receive ≡ this will ∷ []
  keeps : (will : ℕ → ℕ) → KeepsPromises will m'.settled → KeepsPromises will m.settled
  meets : (will : ℕ → ℕ) → ((j : ℕ) → will j < 2 ^ 32) → KeepsPromises will m'.settled → Meets w import args lines (midst_by will i m) (this will) lines' (midst_by will i m')

module _ (w : Program) (i : ℕ) (import : ℕ) (args : List Value) (lines : List AnswerLine) (m : Amid) (o : Outcome) (none : m.receive ≡ None) where
  abbrev bound : Option (List ℕ)
  bound = bound_to w import

  -- the outcome is known
  known_met : (lines' : List AnswerLine) (m' : Amid) → m'.receive ≡ None → ((will : ℕ → ℕ) → KeepsPromises will m'.settled → KeepsPromises will m.settled)
      → ((will : ℕ → ℕ) → KeepsPromises will m'.settled → Meets w import args lines (midst_by will i m) o lines' (midst_by will i m')) → OneMet w i import args lines m o lines' m'
  known_met lines' m' still keeps meets = record {
    known = o ∷ [];
    outcomes = ap (λ r. o ∷ pending 0 r) (sym still);
    this = λ will. o;
    is_this = λ will. ap (λ r. o ∷ pending (will i) r) still;
    keeps = keeps;
    meets = λ will small keeps. meets will keeps;
  }

  by_name : (b : Option (List ℕ)) → bound ≡ b → (z z' : Midst) (k : Outcome) (lines' : List AnswerLine) → MeetsBound w.source import args b lines z k lines' z' → Meets w import args lines z k lines' z'
  by_name b e z z' k lines' h = subst (λ x. MeetsBound w.source import args x lines z k lines' z') (sym e) h

  module _ (name : List ℕ) (e : bound ≡ Some name) where
    abbrev base : List ℕ
    base = name_at (base_names w.source) import

    named : (will : ℕ → ℕ) (b : Option Box) → find (B.is_box name) m.boxes ≡ b → (k : Outcome) (z' : Midst)
        → MeetsNamed import base name args (option_map (promised will) b) (midst_by will i m) k z' → Meets w import args lines (midst_by will i m) k lines z'
    named will b f k z' h =
        by_name (Some name) e (midst_by will i m) z' k lines (
          subst (λ x. MeetsNamed import base name args x (midst_by will i m) k z') (sym (find_promised will name m.boxes ∙ ap (option_map (promised will)) f)) h,
          refl,
        )

    by_box : (b : Box) → find (B.is_box name) m.boxes ≡ Some b → (m' : Amid) → AsksBox import name args b m o m' → OneMet w i import args lines m o lines m'
    by_box b f m' h = by_args args refl h
      where
        boxed : (will : ℕ → ℕ) (xs : List Value) → args ≡ xs → (k : Outcome) (z' : Midst) → MeetsBox import name xs (promised will b) (midst_by will i m) k z'
            → Meets w import args lines (midst_by will i m) k lines z'
        boxed will xs a k z' q = named will (Some b) f k z' (subst (λ ys. MeetsBox import name ys (promised will b) (midst_by will i m) k z') (sym a) q)

        refuses : (xs : List Value) → args ≡ xs → (o ≡ refused (NoDevice import)) × (m' ≡ m)
            → ((will : ℕ → ℕ) (z : Midst) → MeetsBox import name xs (promised will b) z (refused (NoDevice import)) z) → OneMet w i import args lines m o lines m'
        refuses xs a q box =
            known_met lines m' (ap (λ (z : Amid). z.receive) q.1 ∙ none) (λ will keeps. subst (λ (z : Amid). KeepsPromises will z.settled) q.1 keeps)
            (λ will keeps. subst (λ (z : Amid). Meets w import args lines (midst_by will i m) o lines (midst_by will i z)) (sym q.1)
            (subst (λ k. Meets w import args lines (midst_by will i m) k lines (midst_by will i m)) (sym q.0)
            (boxed will xs a (refused (NoDevice import)) (midst_by will i m) (box will (midst_by will i m)))))

        by_values : (vs : List ℕ) → b.values ≡ vs → args ≡ [] → AsksValues import name vs m o m' → OneMet w i import args lines m o lines m'
        by_values [] v a q =
            let some : m'.receive ≡ Some (record { import = import; box = name }) = ap (λ (z : Amid). z.receive) q.1 in
            record {
              known = [];
              outcomes = ap (λ k. k ∷ []) q.0 ∙ ap (pending 0) (sym some);
              this = λ will. mailed (Some (V.I32 (will i))) 1;
              is_this = λ will. ap (pending (will i)) some;
              keeps = λ will keeps. subst (λ (z : Amid). KeepsPromises will z.settled) q.1 keeps;
              meets = λ will small keeps.
                  boxed will [] a (mailed (Some (V.I32 (will i))) 1) (midst_by will i m')
                  (subst (λ xs. MeetsValues import name xs (midst_by will i m) (mailed (Some (V.I32 (will i))) 1) (midst_by will i m')) (sym v)
                  (will i, small i, refl, ap (midst_by will i) q.1));
            }
        by_values (v ∷ vs) is a q =
            known_met lines m' (ap (λ (z : Amid). z.receive) q.2 ∙ none) (λ will keeps. subst (λ (z : Amid). KeepsPromises will z.settled) q.2 keeps)
            (λ will keeps. boxed will [] a o (midst_by will i m')
            (subst (λ xs. MeetsValues import name xs (midst_by will i m) o (midst_by will i m')) (sym is) (
              q.1 ∙ ap (λ n. mailed (Some (V.I32 n)) 0) (sym (small_stays v q.0)),
              ap (midst_by will i) q.2
                  ∙ (λ k. record {
                    devices = m.devices;
                    boxes = sym (at_promised will (M.received vs) (B.received vs) name m.boxes (λ d. refl)) k;
                    settled = map number_of m.settled;
                    receive = option_map (receive_of (will i)) m.receive;
                  }),
            )))

        by_args : (xs : List Value) → args ≡ xs → AsksBox import name xs b m o m' → OneMet w i import args lines m o lines m'
        by_args [] a q = by_values b.values refl a q
        by_args (V.I32 v ∷ []) a q =
            let keeps_on : (will : ℕ → ℕ) → KeepsPromises will m'.settled → KeepsPromises will (m.settled ++ B.receiver v b.waits) =
            λ will keeps. subst (λ (z : Amid). KeepsPromises will z.settled) q.2 keeps in
            known_met lines m' (ap (λ (z : Amid). z.receive) q.2 ∙ none) (λ will keeps. keeps_first will m.settled (B.receiver v b.waits) (keeps_on will keeps))
            (λ will keeps. boxed will (V.I32 v ∷ []) a o (midst_by will i m') (
              awaited_by will v b.waits q.0 (keeps_last will m.settled (B.receiver v b.waits) (keeps_on will keeps)),
              q.1,
              ap (midst_by will i) q.2
                  ∙ (λ k. record {
                    devices = m.devices;
                    boxes = sym (at_promised will (M.sent v) (B.sent v) name m.boxes (λ d. sent_promised will v d d.waits)) k;
                    settled = (map-append number_of m.settled (B.receiver v b.waits) ∙ ap (λ (l : List ℕ). map number_of m.settled ++ l) (numbers will v b.waits)) k;
                    receive = option_map (receive_of (will i)) m.receive;
                  }),
            ))
        by_args (V.I32 v ∷ y ∷ ys) a q = refuses (V.I32 v ∷ y ∷ ys) a q (λ will z. (refl, refl))
        by_args (V.I64 v ∷ ys) a q = refuses (V.I64 v ∷ ys) a q (λ will z. (refl, refl))

    by_named : (b : Option Box) → find (B.is_box name) m.boxes ≡ b → (m' : Amid) → AsksNamed import base name args b m o m' → OneMet w i import args lines m o lines m'
    by_named None f m' h =
        known_met lines m' (ap (λ (z : Amid). z.receive) h.2 ∙ none) (λ will keeps. subst (λ (z : Amid). KeepsPromises will z.settled) h.2 keeps)
        (λ will keeps. named will None f o (midst_by will i m') (h.0, h.1, ap (midst_by will i) h.2))
    by_named (Some b) f m' h = by_box b f m' h

  by_bound : (b : Option (List ℕ)) → bound ≡ b → (lines' : List AnswerLine) (m' : Amid) → AsksBound w.source import args b lines m o lines' m' → OneMet w i import args lines m o lines' m'
  by_bound None e lines' m' h =
      known_met lines' m' (ap (λ (z : Amid). z.receive) h.1 ∙ none) (λ will keeps. subst (λ (z : Amid). KeepsPromises will z.settled) h.1 keeps)
      (λ will keeps. by_name None e (midst_by will i m) (midst_by will i m') o lines' (h.0, ap (midst_by will i) h.1))
  by_bound (Some name) e lines' m' h =
      subst (λ ls. OneMet w i import args lines m o ls m') (sym h.1) (by_named name e (find (B.is_box name) m.boxes) refl m' h.0)

-- ---- one behind another

pub nothing_met_yet : NothingMetYet
nothing_met_yet w i begun none = record {
  known = [];
  outcomes = ap (pending 0) (sym none);
  calls = λ will small keeps. (sym (ap (pending (will i)) none), refl, refl);
}

pub one_more_met : OneMoreMet
one_more_met w i turn begun os now x met new so takes free = by_call (call_in x.event) refl takes free
  where
    by_call : (c : Option Call) → call_in x.event ≡ c → TakesMail w c now met new → (c ≡ None) ⊎ (now.amid.receive ≡ None) → MetSoFar w i (turn ++ x ∷ []) begun (os ++ met) new
    by_call None e t f =
        subst (λ (y : MailSupply). MetSoFar w i (turn ++ x ∷ []) begun (os ++ met) y) (sym t.1)
        (record {
          known = so.known;
          outcomes = ap (λ us. os ++ us) t.0 ∙ append-nil os ∙ so.outcomes;
          calls = λ will small keeps.
              calls_free w turn (x ∷ []) (so.known ++ pending (will i) now.amid.receive) begun.lines (midst_by will i begun.amid) [] now.lines (midst_by will i now.amid) (e, tt)
              (so.calls will small keeps);
        })
    by_call (Some c) e t (inl is) = absurd (let z : Some c ≡ None = is in cc)
    by_call (Some c) e t (inr none) =
        let one : OneMet w i c.import c.args now.lines now.amid t.0 new.lines new.amid = by_bound w i c.import c.args now.lines now.amid t.0 none (bound_to w c.import) refl new.lines new.amid t.2.meets in
        let before : os ≡ so.known = so.outcomes ∙ ap (λ r. so.known ++ pending 0 r) none ∙ append-nil so.known in
        record {
          known = so.known ++ one.known;
          outcomes = (λ k. before k ++ t.1 k) ∙ ap (λ us. so.known ++ us) one.outcomes ∙ sym (append_assoc so.known one.known (pending 0 new.amid.receive));
          calls = λ will small keeps.
              subst (λ us. CallsMeet w (turn ++ x ∷ []) us begun.lines (midst_by will i begun.amid) [] new.lines (midst_by will i new.amid))
              (sym (append_assoc so.known one.known (pending (will i) new.amid.receive) ∙ ap (λ us. so.known ++ us) (one.is_this will)))
              (calls_more w turn x c so.known (one.this will) begun.lines now.lines new.lines (midst_by will i begun.amid) (midst_by will i now.amid) (midst_by will i new.amid) e
              (subst (λ us. CallsMeet w turn us begun.lines (midst_by will i begun.amid) [] now.lines (midst_by will i now.amid))
              (ap (λ r. so.known ++ pending (will i) r) none ∙ append-nil so.known) (so.calls will small (one.keeps will keeps)))
              (one.meets will small keeps));
        }
