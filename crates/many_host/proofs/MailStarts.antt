-- A host with mailboxes before its first line.
use Rattle.std.proofs.Common.{arith, ◌≡◌, ℕ, List, [], ◌∷◌, map, Some, None, Bool, true, false, slice_get, refl, sym, ap, ◌∙◌, subst}
use Rattle.std.specs.Option.{option_map}
use Rattle.std.proofs.lemmas.List.{length-map}
use Rattle.std.proofs.lemmas.Option.{slice_get-map, same_Some}
use Rattle.world_model.specs.World.{Device, due_from}
use Rattle.world_model.specs.World as W
use Rattle.world_laws.proofs.Places.{all_at}
use Rattle.event_order.specs.declared.shows.Show.{Show}
use Rattle.mailbox_device.specs.Mail.{empty_mail}
use Rattle.mail_laws.specs.MailWorld.{begins_over}
use Rattle.mail_laws.specs.Told.{Teller, due_of, if_going, starting}
use Rattle.pause_host.specs.declared.program.Program.{Program}
use Rattle.pause_host.specs.Programs.{receive_in}
use Rattle.many_host.specs.Hosts.{follows, has_ended}
use Rattle.many_host.specs.MailHosts.{NoneWaits}
use Rattle.many_host.specs.MailStanding.{Holds, StandingFrom, has_gone, on_its_way}
use Rattle.many_host.specs.Standing.{AllStart, Held, held_of}
use Rattle.many_host.specs.Standing as S
use Rattle.many_host.specs.Turns as T
use Rattle.many_host.specs.declared.hosted.Hosted.{Hosted}
use Rattle.many_host.specs.declared.turn_taking.Stage.{Stage}
use Rattle.many_host.specs.declared.turn_taking.Stage.TheVariants.{Between}
use Rattle.many_host.specs.declared.turn_taking.Turns.{Turns}
use Rattle.many_host.proofs.MailNotes.{nothing_mail_told}
use Rattle.many_host.proofs.MailStages.{not_parked}
use Rattle.many_host.proofs.MailStories.{same_gone}

-- ---- the same said of programs without mailboxes

unless_is : (b : Bool) (due : ℕ) → T.unless b due ≡ if_going b (Some due)
unless_is true due = refl
unless_is false due = refl

same_dues : (ws : List W.Program) → map T.due_of (map T.starting ws) ≡ map due_of (map starting ws)
same_dues [] = refl
same_dues (w ∷ ws) =
    let due : T.due_of (T.starting w) ≡ due_of (starting w) = ap (λ (b : Bool). T.unless b (due_from w.origin)) (same_gone w) ∙ unless_is (begins_over w) (due_from w.origin) in
    (λ k. due k ∷ same_dues ws k)

-- a program that waits for no mailbox
starts_held : (shows : List Show) (i : ℕ) (w : W.Program) (x : Hosted) → S.Holds follows has_ended shows i w (T.starting w) x → receive_in x.program ≡ None → Holds shows i w (starting w) x
starts_held shows i w x (S.on_its_way k) none =
    on_its_way (record {
      follow = (k.follow.0, k.follow.1, none, λ r e. let z : None ≡ Some r = sym none ∙ e in absurd cc);
      ended_is = k.ended_is ∙ same_gone w;
      told_end = sym (sym (same_gone w) ∙ k.live);
      as_many = refl;
      memory_is = λ some. let never : ⊥ = omega (arith, some) in absurd never;
      looks = k.looks;
      live = sym (same_gone w) ∙ k.live;
    })
starts_held shows i w x (S.has_gone is told looks) none = has_gone (sym (same_gone w) ∙ is) refl looks (not_parked x none)

teller_is : (ws : List W.Program) (i : ℕ) (w : W.Program) (t : Teller) → slice_get ws i ≡ Some w → slice_get (map starting ws) i ≡ Some t → starting w ≡ t
teller_is ws i w t ew et = same_Some (starting w) t (sym (slice_get-map starting ws i ∙ ap (option_map starting) ew) ∙ et)

-- of programs that are held
none_waits : (xs : List Hosted) (programs : List Program) → map (λ (x : Hosted). x.program) xs ≡ programs → NoneWaits programs → (i : ℕ) (x : Hosted) → slice_get xs i ≡ Some x
    → receive_in x.program ≡ None
none_waits xs programs are none i x there =
    all_at (λ (y : Program). receive_in y ≡ None) programs i x.program none
    (ap (λ (l : List Program). slice_get l i) (sym are) ∙ slice_get-map (λ (y : Hosted). y.program) xs i ∙ ap (option_map (λ (y : Hosted). y.program)) there)

-- ---- a host

mail_stands_first : (begun : ℕ) (ws : List W.Program) (names : List (List ℕ)) (ds : List Device) (h : Held Hosted) (programs : List Program) → map (λ (x : Hosted). x.program) h.programs ≡ programs
    → h.begun ≡ begun → h.earlier ≡ begun → AllStart follows has_ended h.shows ws h.programs h.dues → NoneWaits programs
    → StandingFrom begun ws h.detaches names ds [] h 0 ds (empty_mail names) Between
mail_stands_first begun ws names ds h programs are is earlier s none =
    record {
      tellers = map starting ws;
      wide = length-map ws starting;
      as_many = s.wide;
      each = λ i w t x ew et ex.
          subst (λ (u : Teller). Holds h.shows i w u x) (teller_is ws i w t ew et) (starts_held h.shows i w x (s.each i w x ew ex) (none_waits h.programs programs are none i x ex));
      dues = s.dues_are ∙ same_dues ws;
      detaches_are = refl;
      earlier_is = earlier;
      count = 0;
      begun_is = omega (arith, is);
      at = nothing_mail_told begun ws h.detaches names ds;
    }

-- where it has just been made
pub mail_host_first : (begun : ℕ) (ws : List W.Program) (names : List (List ℕ)) (ds : List Device) (h : Held Hosted) (programs : List Program) → map (λ (x : Hosted). x.program) h.programs ≡ programs
    → h.begun ≡ begun → h.earlier ≡ begun → AllStart follows has_ended h.shows ws h.programs h.dues → NoneWaits programs
    → (turns : Turns Hosted) → held_of turns ≡ h → turns.last ≡ 0 → turns.stage ≡ Between
    → StandingFrom begun ws h.detaches names ds [] (held_of turns) turns.last ds (empty_mail names) turns.stage
mail_host_first begun ws names ds h programs are is earlier s none turns held_is last_is stage_is =
    subst (λ (g : Stage). StandingFrom begun ws h.detaches names ds [] (held_of turns) turns.last ds (empty_mail names) g) (sym stage_is)
    (subst (λ (n : ℕ). StandingFrom begun ws h.detaches names ds [] (held_of turns) n ds (empty_mail names) Between) (sym last_is)
    (subst (λ (k : Held Hosted). StandingFrom begun ws h.detaches names ds [] k 0 ds (empty_mail names) Between) (sym held_is)
    (mail_stands_first begun ws names ds h programs are is earlier s none)))
