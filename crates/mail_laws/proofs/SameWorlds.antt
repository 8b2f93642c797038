-- Two runs of a world with mailboxes, beside what is known of both, are one where each turn of theirs is decided.
use Rattle.std.proofs.Common.{arith, ◌≡◌, ◌<◌, ◌≤◌, ◌+◌, ◌⊎◌, inl, inr, ℕ, zero, suc, List, [], ◌∷◌, ◌++◌, length, map, Option, Some, None, true, false, slice_get, slice_set, refl, sym, ap, ◌∙◌, subst}
use Rattle.std.proofs.lemmas.Option.{same_Some, slice_get_within}
use Rattle.wa_model.specs.declared.answers.Detach.{Detach}
use Rattle.wa_model.specs.declared.events.End.TheVariants.{Stalled}
use Rattle.wa_model.specs.Outside.{Call, Line, ended}
use Rattle.world_model.specs.World.{Device, Program, line_at, look_events}
use Rattle.world_laws.proofs.Journals.{Grows}
use Rattle.world_laws.proofs.Places.{all_at, item}
use Rattle.mailbox_device.specs.Mail.{empty_box as empty_mail, names_of}
use Rattle.mail_laws.specs.Mailboxes.{Shared}
use Rattle.mail_laws.specs.MailWorld.{Actor, HasEnded, IsOver, Plays, ProtocolWorldFrom, Stalls, TakesTurn, a_stall, a_turn, sharing}
use Rattle.mail_laws.specs.Played.{ProtocolWorldUpToFrom}
use Rattle.mail_laws.specs.Replays.{IsNoBox, LastingDevices}
use Rattle.mail_laws.specs.Told.{Common, IsLeast, Teller, begun_amid, due_of, starting as teller_at, opening as told_opening}
use Rattle.mail_laws.proofs.Beginnings.{start_size}
use Rattle.mail_laws.proofs.CallsCounted.{IsCounted, start_counted}
use Rattle.mail_laws.proofs.GoingOn.{Holds, goes_along, has_told, no_await, start_holds, waits_on}
use Rattle.mail_laws.proofs.KnownCalls.{bound_to}
use Rattle.mail_laws.proofs.PlayedAreTold.{awake_on, beside, opens_so, start_going, stories, unready, whole_from}
use Rattle.mail_laws.proofs.Played.{counted}
use Rattle.mail_laws.proofs.RunsBeside.{Goes, IsPart, Known, Moved, Stories, follows_as, goes_on, its_teller, its_whole, no_parked, renumbered, stall_at, stall_known, stall_moved, stall_none, stalled_as}
use Rattle.mail_laws.proofs.RunsBeside.{stalled_common, stalled_teller, then_common, then_lines, then_tellers, turn_calm, turn_follows, turn_grows, turn_known, turn_least, turn_lines_are, turn_moved, turn_part}
use Rattle.mail_laws.proofs.SameTold.{Twice}
use Rattle.mail_laws.proofs.SameTurns.{Agree}
use Rattle.mail_laws.proofs.ToldAreWorlds.{Whole}
use Rattle.mail_laws.proofs.TurnsTold.{Knows, Turned}

-- ---- small things

-- the least is one
one_least : (dues : List (Option ℕ)) (i j d e : ℕ) → IsLeast dues i d → IsLeast dues j e → i ≡ j
one_least dues i j d e n k = by (n.least j e k.there) (k.least i d n.there)
  where
    by : (d < e) ⊎ ((d ≡ e) × (i ≤ j)) → (e < d) ⊎ ((e ≡ d) × (j ≤ i)) → i ≡ j
    by (inl l) (inl m) = let no_way : ⊥ = omega (arith, l, m) in absurd no_way
    by (inl l) (inr m) = let no_way : ⊥ = omega (arith, l, m.0) in absurd no_way
    by (inr l) (inl m) = let no_way : ⊥ = omega (arith, l.0, m) in absurd no_way
    by (inr l) (inr m) = omega (arith, l.1, m.1)

agree_past : {F W : Type 0} (ls xs ys : List Line) → Agree F W (ls ++ xs) (ls ++ ys) → Agree F W xs ys
agree_past [] xs ys h = h
agree_past (l ∷ ls) xs ys h = agree_past ls xs ys (λ i x y a b. h (suc i) x y a b)

agree_as : {F W : Type 0} {a b c d : List Line} → a ≡ c → b ≡ d → Agree F W a b → Agree F W c d
agree_as {F} {W} {a} {b} {c} {d} e f h = subst (λ (ls : List Line). Agree F W ls d) e (subst (λ (ls : List Line). Agree F W a ls) f h)

not_both : true ≡ false → ⊥
not_both e = cc

-- ---- from one event to the next

module _ (programs : List Program) (detaches : List Detach) (boxes : List (List ℕ)) (ds' : List Device) (F W : Type 0) where
  -- where one is over, no event of the other is left
  none_left : (number : ℕ) (tellers : List Teller) (c : Common) (sizes : List ℕ) (before lines1 lines2 : List Line) (wholes1 wholes2 : List Whole) (count : ℕ) → Known programs boxes tellers c sizes before
      → (one : Goes programs detaches F ds' wholes1 tellers c before number zero lines1) (two : Goes programs detaches F ds' wholes2 tellers c before number (suc count) lines2) → ⊥
  none_left number tellers c sizes before lines1 lines2 wholes1 wholes2 count s one two = by two.played.4
    where
      over1 : (i : ℕ) (a : Actor) → slice_get one.actors i ≡ Some a → HasEnded a
      over1 i a e = all_at HasEnded one.last i a one.over (ap (λ (l : List Actor). slice_get l i) one.played.1 ∙ e)

      by : Plays programs detaches number two.actors two.sh two.played.0 two.played.2 two.played.3 → ⊥
      by (a_turn t) =
          let u = item tellers t.i (omega (arith, slice_get_within two.actors t.i t.a t.next.there, two.beside.long)) in
          let h = item wholes2 t.i (omega (arith, slice_get_within tellers t.i u.0 u.1, two.beside.wide)) in
          let ready = unready (two.will t.i) u.0 h.0 t.a (two.beside.each t.i u.0 h.0 t.a u.1 h.1 t.next.there) t.next.ready in
          let a = item one.actors t.i (omega (arith, slice_get_within tellers t.i u.0 u.1, one.beside.long)) in
          let some = awake_on programs detaches zero number wholes1 before lines1 tellers c sizes one.will one.actors one.last one.sh one.end s.holds one.beside s.calm s.going one.played one.ends t.i u.0 a.0
          u.1 a.1 ready.0 ready.1 in
          let none = ap length (over1 t.i a.0 a.1).no_notes in
          omega (arith, some, none)
      by (a_stall t) =
          let u = item tellers t.i (omega (arith, slice_get_within two.actors t.i t.a t.there, two.beside.long)) in
          let h = item wholes2 t.i (omega (arith, slice_get_within tellers t.i u.0 u.1, two.beside.wide)) in
          let g = item wholes1 t.i (omega (arith, slice_get_within tellers t.i u.0 u.1, one.beside.wide)) in
          let a = item one.actors t.i (omega (arith, slice_get_within tellers t.i u.0 u.1, one.beside.long)) in
          let here = two.beside.each t.i u.0 h.0 t.a u.1 h.1 t.there in
          let there = one.beside.each t.i u.0 g.0 a.0 u.1 g.1 a.1 in
          no_parked t.at (sym (over1 t.i a.0 a.1).awake ∙ there.parked ∙ sym here.parked ∙ t.waits)

  module _ (wholes1 wholes2 : List Whole) where
    -- Two turns of one program from one known state are one, where devices keep what they are asked, and lines agree.
    abbrev pub Decides : Type 0
    Decides =
        (number : ℕ) (tellers : List Teller) (c : Common) (i : ℕ) (w : Program) (t : Teller) (size : ℕ) (a b : Turned w i t tellers (begun_amid number detaches c) size) (more1 more2 : List Line)
        → slice_get programs i ≡ Some w → IsCounted t → t.receive ≡ None → names_of c.boxes ≡ boxes
        → (LastingDevices programs detaches boxes → F → (call : Call) (name : List ℕ) → bound_to w call ≡ Some name → IsNoBox name boxes → Grows name a.behind.devices ds')
        → (LastingDevices programs detaches boxes → F → (call : Call) (name : List ℕ) → bound_to w call ≡ Some name → IsNoBox name boxes → Grows name b.behind.devices ds')
        → Agree F W (then_lines a ++ more1) (then_lines b ++ more2) → IsPart wholes1 i (t.told ++ a.turn) (t.met ++ a.met) → IsPart wholes2 i (t.told ++ b.turn) (t.met ++ b.met) → Twice w i t tellers (begun_amid number detaches c) size a b

    abbrev One : List Teller → Common → List Line → ℕ → ℕ → List Line → Type 0
    One = Goes programs detaches F ds' wholes1

    abbrev Two : List Teller → Common → List Line → ℕ → ℕ → List Line → Type 0
    Two = Goes programs detaches F ds' wholes2

    -- the same lines, and the same devices at the end
    abbrev Ends : Shared → Shared → List Line → List Line → Type 0
    Ends end1 end2 lines1 lines2 = (lines1 ≡ lines2) × (end1.devices ≡ end2.devices)

    -- what is left of both is one
    abbrev Rest : ℕ → ℕ → ℕ → Type 0
    Rest count1 count2 number =
        (tellers : List Teller) (c : Common) (sizes : List ℕ) (before lines1 lines2 : List Line) → Known programs boxes tellers c sizes before → (one : One tellers c before number count1 lines1)
        → (two : Two tellers c before number count2 lines2) → Agree F W lines1 lines2 → Ends one.end two.end lines1 lines2

    module _ (stories1 : Stories programs wholes1) (stories2 : Stories programs wholes2) (decides : Decides) where
      module _ (count1 count2 number : ℕ) (tellers : List Teller) (c : Common) (sizes : List ℕ) (before lines1 lines2 : List Line) (s : Known programs boxes tellers c sizes before)
          (one : One tellers c before number (suc count1) lines1) (two : Two tellers c before number (suc count2) lines2) (agree : Agree F W lines1 lines2) (on : Rest count1 count2 (suc number)) where
        abbrev f1 : List Line
        f1 = one.played.0

        abbrev acts1 : List Actor
        acts1 = one.played.2

        abbrev z1 : Shared
        z1 = one.played.3

        abbrev f2 : List Line
        f2 = two.played.0

        abbrev acts2 : List Actor
        acts2 = two.played.2

        abbrev z2 : Shared
        z2 = two.played.3

        -- both have made one event
        both_go : (tellers' : List Teller) (c' : Common) (sizes' : List ℕ) → f1 ≡ f2 → Known programs boxes tellers' c' sizes' (before ++ f1) → Moved wholes1 acts1 z1 tellers' c'
            → Moved wholes2 acts2 z2 tellers' c' → Ends one.end two.end lines1 lines2
        both_go tellers' c' sizes' same known moved1 moved2 =
            let split2 : lines2 ≡ f1 ++ two.played.1 = two.played.6 ∙ ap (λ (ls : List Line). ls ++ two.played.1) (sym same) in
            let r = on tellers' c' sizes' (before ++ f1) one.played.1 two.played.1 known (goes_on programs detaches boxes F ds' wholes1 stories1 count1 number tellers c sizes before lines1 s one tellers' c' (before ++ f1) refl moved1)
            (goes_on programs detaches boxes F ds' wholes2 stories2 count2 number tellers c sizes before lines2 s two tellers' c' (before ++ f1) (ap (λ (ls : List Line). before ++ ls) (sym same)) moved2)
            (agree_past f1 one.played.1 two.played.1 (agree_as one.played.6 split2 agree)) in
            (one.played.6 ∙ ap (λ (ls : List Line). f1 ++ ls) r.0 ∙ sym split2, r.1)

        -- a turn in both
        module _ (p1 : TakesTurn programs detaches number one.actors one.sh f1 acts1 z1) (u : (t : Teller) × (slice_get tellers p1.i ≡ Some t)) (h1 : (h : Whole) × (slice_get wholes1 p1.i ≡ Some h))
            (h2 : (h : Whole) × (slice_get wholes2 p1.i ≡ Some h)) (q : TakesTurn programs detaches number two.actors two.sh f2 acts2 z2) (same_i : q.i ≡ p1.i) (same_w : q.w ≡ p1.w) where
          abbrev p2 : TakesTurn programs detaches number two.actors two.sh f2 acts2 z2
          p2 = renumbered q p1.i p1.w same_i same_w p1.program

          both_turn : (n : ℕ) (sized : slice_get sizes p1.i ≡ Some n) (size : ℕ) (n_is : n ≡ suc size) → Knows p1.w u.0.met u.0.told size → Ends one.end two.end lines1 lines2
          both_turn n sized size n_is knows =
              let g = turn_follows programs detaches boxes F ds' wholes1 stories1 count1 number tellers c sizes before lines1 s one p1 u h1 size knows in
              let k = turn_follows programs detaches boxes F ds' wholes2 stories2 count2 number tellers c sizes before lines2 s two p2 u h2 size knows in
              let awake = (turn_calm programs detaches boxes F ds' wholes1 stories1 count1 number tellers c sizes before lines1 s one p1 u h1).1 in
              let twice : Twice p1.w p1.i u.0 tellers (begun_amid number detaches c) size g.tu k.tu =
              decides number tellers c p1.i p1.w u.0 size g.tu k.tu one.played.1 two.played.1 p1.program (s.counted p1.i u.0 u.1) awake s.named
              (turn_grows programs detaches boxes F ds' wholes1 stories1 count1 number tellers c sizes before lines1 s one p1 u h1 n sized size n_is g) (turn_grows programs detaches boxes F ds' wholes2 stories2 count2 number tellers c sizes before lines2 s two p2 u h2 n sized size n_is k)
              (agree_as (one.played.6 ∙ ap (λ (ls : List Line). ls ++ one.played.1) (turn_lines_are programs detaches boxes F ds' wholes1 stories1 count1 number tellers c sizes before lines1 s one p1 u h1 n sized size n_is g))
              (two.played.6 ∙ ap (λ (ls : List Line). ls ++ two.played.1) (turn_lines_are programs detaches boxes F ds' wholes2 stories2 count2 number tellers c sizes before lines2 s two p2 u h2 n sized size n_is k)) agree)
              (turn_part programs detaches boxes F ds' wholes1 stories1 count1 number tellers c sizes before lines1 s one p1 u h1 n sized size n_is g) (turn_part programs detaches boxes F ds' wholes2 stories2 count2 number tellers c sizes before lines2 s two p2 u h2 n sized size n_is k) in
              let k2 = follows_as k g.tu twice.turn twice.met twice.answers twice.behind in
              let known = turn_known programs detaches boxes F ds' wholes1 stories1 count1 number tellers c sizes before lines1 s one p1 u h1 n sized size n_is g in
              both_go (then_tellers g.tu) (then_common g.tu) known.0
              (turn_lines_are programs detaches boxes F ds' wholes1 stories1 count1 number tellers c sizes before lines1 s one p1 u h1 n sized size n_is g
              ∙ sym (turn_lines_are programs detaches boxes F ds' wholes2 stories2 count2 number tellers c sizes before lines2 s two p2 u h2 n sized size n_is k2))
              known.1
              (turn_moved programs detaches boxes F ds' wholes1 stories1 count1 number tellers c sizes before lines1 s one p1 u h1 n sized size n_is g) (turn_moved programs detaches boxes F ds' wholes2 stories2 count2 number tellers c sizes before lines2 s two p2 u h2 n sized size n_is k2)

          turns : Ends one.end two.end lines1 lines2
          turns = at (item sizes p1.i (omega (arith, slice_get_within tellers p1.i u.0 u.1, s.holds.wide)))
            where
              at : (n : ℕ) × (slice_get sizes p1.i ≡ Some n) → Ends one.end two.end lines1 lines2
              at n = by (s.holds.each p1.i p1.w u.0 n.0 p1.program u.1 n.1)
                where
                  by : Holds p1.w u.0 n.0 → Ends one.end two.end lines1 lines2
                  by (has_told e story) = absurd (not_both (sym e ∙ (turn_calm programs detaches boxes F ds' wholes1 stories1 count1 number tellers c sizes before lines1 s one p1 u h1).0))
                  by (goes_along e none size ns k) = both_turn n.0 n.1 size ns k
                  by (waits_on e r some size ns cut st) = absurd (no_await r (sym (turn_calm programs detaches boxes F ds' wholes1 stories1 count1 number tellers c sizes before lines1 s one p1 u h1).1 ∙ some))

        -- a stall in both
        stalls : (p1 : Stalls programs detaches number one.actors one.sh f1 acts1 z1) (u : (t : Teller) × (slice_get tellers p1.i ≡ Some t)) (h1 : (h : Whole) × (slice_get wholes1 p1.i ≡ Some h))
            (h2 : (h : Whole) × (slice_get wholes2 p1.i ≡ Some h)) (q : Stalls programs detaches number two.actors two.sh f2 acts2 z2) → q.i ≡ p1.i → Ends one.end two.end lines1 lines2
        stalls p1 u h1 h2 q same_i =
            let at_is : p1.at ≡ q.at =
            same_Some p1.at q.at
            (sym (stall_at programs detaches boxes F ds' wholes1 stories1 count1 number tellers c sizes before lines1 s one p1 u h1)
            ∙ stall_at programs detaches boxes F ds' wholes2 stories2 count2 number tellers c sizes before lines2 s two (stalled_as q p1.i same_i) u h2) in
            let w_is : p1.w ≡ q.w = same_Some p1.w q.w (sym p1.program ∙ ap (slice_get programs) (sym same_i) ∙ q.program) in
            let tick : one.sh.tick ≡ two.sh.tick = ap (λ (y : Shared). y.tick) one.shared ∙ sym (ap (λ (y : Shared). y.tick) two.shared) in
            let known = stall_known programs detaches boxes F ds' wholes1 stories1 count1 number tellers c sizes before lines1 s one p1 u h1 in
            both_go (slice_set tellers p1.i (stalled_teller u.0)) (stalled_common number detaches c) known.0
            (p1.made ∙ (λ k. map (line_at (tick k) (sym same_i k)) (ended (Stalled (at_is k).import) ∷ look_events (at_is k).store (w_is k).looks)) ∙ sym q.made) known.1
            (stall_moved programs detaches boxes F ds' wholes1 stories1 count1 number tellers c sizes before lines1 s one p1 u h1) (stall_moved programs detaches boxes F ds' wholes2 stories2 count2 number tellers c sizes before lines2 s two (stalled_as q p1.i same_i) u h2)

        events : Plays programs detaches number one.actors one.sh f1 acts1 z1 → Plays programs detaches number two.actors two.sh f2 acts2 z2 → Ends one.end two.end lines1 lines2
        events (a_turn p1) (a_turn q) =
            let u = its_teller programs detaches boxes F ds' wholes1 stories1 count1 number tellers c sizes before lines1 s one p1.i p1.a p1.next.there in
            let h1 = its_whole programs detaches boxes F ds' wholes1 stories1 count1 number tellers c sizes before lines1 s one p1.i u.0 u.1 in
            let h2 = its_whole programs detaches boxes F ds' wholes2 stories2 count2 number tellers c sizes before lines2 s two p1.i u.0 u.1 in
            let v = its_teller programs detaches boxes F ds' wholes2 stories2 count2 number tellers c sizes before lines2 s two q.i q.a q.next.there in
            let g = its_whole programs detaches boxes F ds' wholes2 stories2 count2 number tellers c sizes before lines2 s two q.i v.0 v.1 in
            let same_i : q.i ≡ p1.i = one_least (map due_of tellers) q.i p1.i v.0.due u.0.due
            (turn_least programs detaches boxes F ds' wholes2 stories2 count2 number tellers c sizes before lines2 s two q v g)
            (turn_least programs detaches boxes F ds' wholes1 stories1 count1 number tellers c sizes before lines1 s one p1 u h1) in
            turns p1 u h1 h2 q same_i (same_Some q.w p1.w (sym q.program ∙ ap (slice_get programs) same_i ∙ p1.program))
        events (a_turn p1) (a_stall q) =
            let u = its_teller programs detaches boxes F ds' wholes1 stories1 count1 number tellers c sizes before lines1 s one p1.i p1.a p1.next.there in
            let v = its_teller programs detaches boxes F ds' wholes2 stories2 count2 number tellers c sizes before lines2 s two q.i q.a q.there in
            let l = turn_least programs detaches boxes F ds' wholes1 stories1 count1 number tellers c sizes before lines1 s one p1 u (its_whole programs detaches boxes F ds' wholes1 stories1 count1 number tellers c sizes before lines1 s one p1.i u.0 u.1) in
            absurd (stall_none programs detaches boxes F ds' wholes2 stories2 count2 number tellers c sizes before lines2 s two q v (its_whole programs detaches boxes F ds' wholes2 stories2 count2 number tellers c sizes before lines2 s two q.i v.0 v.1) p1.i u.0.due l.there)
        events (a_stall p1) (a_turn q) =
            let u = its_teller programs detaches boxes F ds' wholes1 stories1 count1 number tellers c sizes before lines1 s one p1.i p1.a p1.there in
            let v = its_teller programs detaches boxes F ds' wholes2 stories2 count2 number tellers c sizes before lines2 s two q.i q.a q.next.there in
            let l = turn_least programs detaches boxes F ds' wholes2 stories2 count2 number tellers c sizes before lines2 s two q v (its_whole programs detaches boxes F ds' wholes2 stories2 count2 number tellers c sizes before lines2 s two q.i v.0 v.1) in
            absurd (stall_none programs detaches boxes F ds' wholes1 stories1 count1 number tellers c sizes before lines1 s one p1 u (its_whole programs detaches boxes F ds' wholes1 stories1 count1 number tellers c sizes before lines1 s one p1.i u.0 u.1) q.i v.0.due l.there)
        events (a_stall p1) (a_stall q) =
            let u = its_teller programs detaches boxes F ds' wholes1 stories1 count1 number tellers c sizes before lines1 s one p1.i p1.a p1.there in
            let h1 = its_whole programs detaches boxes F ds' wholes1 stories1 count1 number tellers c sizes before lines1 s one p1.i u.0 u.1 in
            let h2 = its_whole programs detaches boxes F ds' wholes2 stories2 count2 number tellers c sizes before lines2 s two p1.i u.0 u.1 in
            let v = its_teller programs detaches boxes F ds' wholes2 stories2 count2 number tellers c sizes before lines2 s two q.i q.a q.there in
            let g1 = its_whole programs detaches boxes F ds' wholes1 stories1 count1 number tellers c sizes before lines1 s one q.i v.0 v.1 in
            let g2 = its_whole programs detaches boxes F ds' wholes2 stories2 count2 number tellers c sizes before lines2 s two q.i v.0 v.1 in
            let a = item one.actors q.i (omega (arith, slice_get_within tellers q.i v.0 v.1, one.beside.long)) in
            let b = item two.actors p1.i (omega (arith, slice_get_within tellers p1.i u.0 u.1, two.beside.long)) in
            let le1 = p1.first q.i a.0 q.at a.1 ((one.beside.each q.i v.0 g1.0 a.0 v.1 g1.1 a.1).parked ∙ stall_at programs detaches boxes F ds' wholes2 stories2 count2 number tellers c sizes before lines2 s two q v g2) in
            let le2 = q.first p1.i b.0 p1.at b.1 ((two.beside.each p1.i u.0 h2.0 b.0 u.1 h2.1 b.1).parked ∙ stall_at programs detaches boxes F ds' wholes1 stories1 count1 number tellers c sizes before lines1 s one p1 u h1) in
            stalls p1 u h1 h2 q (omega (arith, le1, le2))

      pub same_lines : (count1 count2 number : ℕ) → Rest count1 count2 number
      same_lines zero zero number tellers c sizes before lines1 lines2 s one two agree = (
        one.played.0 ∙ sym two.played.0,
        ap (λ (y : Shared). y.devices) (one.played.2 ∙ one.shared) ∙ sym (ap (λ (y : Shared). y.devices) (two.played.2 ∙ two.shared)),
      )
      same_lines zero (suc count2) number tellers c sizes before lines1 lines2 s one two agree = absurd (none_left number tellers c sizes before lines1 lines2 wholes1 wholes2 count2 s one two)
      same_lines (suc count1) zero number tellers c sizes before lines1 lines2 s one two agree = absurd (none_left number tellers c sizes before lines2 lines1 wholes2 wholes1 count1 s two one)
      same_lines (suc count1) (suc count2) number tellers c sizes before lines1 lines2 s one two agree =
          events count1 count2 number tellers c sizes before lines1 lines2 s one two agree (same_lines count1 count2 (suc number)) one.played.4 two.played.4

-- ---- from where programs begin

opening_names : (names : List (List ℕ)) → names_of (map empty_mail names) ≡ names
opening_names [] = refl
opening_names (n ∷ names) = ap (λ (ns : List (List ℕ)). n ∷ ns) (opening_names names)

-- a whole run is one up to its last event
abbrev pub up_to : (begun : ℕ) (programs : List Program) (detaches : List Detach) (boxes : List (List ℕ)) (ds ds' : List Device) (lines : List Line)
    → (world : ProtocolWorldFrom begun programs detaches boxes ds lines ds')
    → ProtocolWorldUpToFrom begun programs detaches boxes ds (begun + (counted programs detaches (suc begun) world.actors world.runs.last (sharing boxes ds) world.runs.shared lines world.runs.events).0) lines ds'
up_to begun programs detaches boxes ds ds' lines world =
    let all = counted programs detaches (suc begun) world.actors world.runs.last (sharing boxes ds) world.runs.shared lines world.runs.events in
    record {
      actors = world.actors;
      now = world.runs.last;
      shared = world.runs.shared;
      starts = world.starts;
      count = all.0;
      numbered = refl;
      played = all.1;
      devices = world.runs.devices;
      ends = λ i w a there ea going none up. world.ends i w there going;
    }

module _ (begun : ℕ) (programs : List Program) (detaches : List Detach) (boxes : List (List ℕ)) (ds ds1 ds2 ds' : List Device) (lines1 lines2 : List Line) (F W : Type 0)
    (first : ProtocolWorldFrom begun programs detaches boxes ds lines1 ds1) (second : ProtocolWorldFrom begun programs detaches boxes ds lines2 ds2) where
  begins : (es : List Device) (number : ℕ) (lines : List Line) (world : ProtocolWorldUpToFrom begun programs detaches boxes ds number lines es) → IsOver world.now → (F → es ≡ ds')
      → (g : Goes programs detaches F ds' (map whole_from world.actors) (map teller_at programs) (told_opening boxes ds) [] (suc begun) world.count lines) × (g.end.devices ≡ es)
  begins es number lines world over same = (
    record {
      will = λ j. 0;
      small = λ j. omega arith;
      actors = world.actors;
      last = world.now;
      sh = sharing boxes ds;
      end = world.shared;
      beside = beside begun programs detaches boxes ds es number lines world;
      shared = λ k. record { devices = ds; boxes = opens_so boxes k; tick = 0 };
      played = world.played;
      ends = world.ends;
      over = over;
      devices = λ asks. sym world.devices ∙ same asks;
    },
    sym world.devices,
  )

  pub runs_same : Decides programs detaches boxes ds' F W (map whole_from first.actors) (map whole_from second.actors) → (F → (ds1 ≡ ds') × (ds2 ≡ ds')) → Agree F W lines1 lines2
      → (lines1 ≡ lines2) × (ds1 ≡ ds2)
  runs_same decides same agree =
      let a = up_to begun programs detaches boxes ds ds1 lines1 first in
      let b = up_to begun programs detaches boxes ds ds2 lines2 second in
      let number1 = begun + a.count in
      let number2 = begun + b.count in
      let g = begins ds1 (begun + a.count) lines1 (up_to begun programs detaches boxes ds ds1 lines1 first) first.runs.over (λ asks. (same asks).0) in
      let k = begins ds2 (begun + b.count) lines2 (up_to begun programs detaches boxes ds ds2 lines2 second) second.runs.over (λ asks. (same asks).1) in
      let r = same_lines programs detaches boxes ds' F W (map whole_from first.actors) (map whole_from second.actors)
      (stories begun programs detaches boxes ds ds1 (begun + a.count) lines1 (up_to begun programs detaches boxes ds ds1 lines1 first))
      (stories begun programs detaches boxes ds ds2 (begun + b.count) lines2 (up_to begun programs detaches boxes ds ds2 lines2 second)) decides a.count b.count (suc begun) (map teller_at programs)
      (told_opening boxes ds) (map start_size programs) [] lines1 lines2
      (record {
        holds = start_holds programs boxes ds;
        counted = start_counted programs;
        named = opening_names boxes;
        calm = λ j t e f. refl;
        going = start_going begun programs detaches boxes ds ds1 (begun + a.count) lines1 (up_to begun programs detaches boxes ds ds1 lines1 first);
      })
      g.0 k.0 agree in
      (r.0, sym g.1 ∙ r.1 ∙ k.1)
