-- Where nothing has been told of programs with mailboxes, that begins a run of the world.
use Rattle.std.proofs.Common.{◌≡◌, ℕ, List, [], map, Some, None, refl, sym, ap, ◌∙◌, subst, arith}
use Rattle.std.specs.Prelude.{slice_get}
use Rattle.std.specs.Option.{option_map}
use Rattle.std.proofs.lemmas.List.{length-map}
use Rattle.std.proofs.lemmas.Option.{same_Some, slice_get-map, slice_get_within}
use Rattle.wa_model.specs.declared.answers.Detach.{Detach}
use Rattle.world_model.specs.World as W
use Rattle.world_model.specs.World.{Device}
use Rattle.world_laws.proofs.Places.{all_at, item, zipped}
use Rattle.event_order.specs.declared.shows.Show.{Show}
use Rattle.mailbox_device.specs.Mail.{empty_mail}
use Rattle.mail_laws.specs.Told.{HasStory, Teller, starting}
use Rattle.pause_host.specs.declared.program.Program.{Program}
use Rattle.pause_host.specs.Programs.{receive_in}
use Rattle.many_host.specs.declared.hosted.Hosted.{Hosted}
use Rattle.many_host.specs.Hosts.{AreSetUp, follows, has_ended}
use Rattle.many_host.specs.MailHosts.{NoneWaits}
use Rattle.many_host.specs.MailStanding.{Holds, has_gone, on_its_way}
use Rattle.many_host.specs.Standing.{AllStart}
use Rattle.many_host.specs.Standing as S
use Rattle.many_host.specs.ToldMail.{BeginsMailWorld}
use Rattle.many_host.specs.Turns as T
use Rattle.many_host.proofs.MailNotes.{nothing_mail_told}
use Rattle.many_host.proofs.MailStages.{not_parked}
use Rattle.many_host.proofs.MailStories.{held_has_story, same_gone}
use Rattle.many_host.proofs.MailWorlds.{mail_told_begins}
use Rattle.many_host.proofs.Tellings.{all_start}
use Rattle.world_hosting.proofs.Begun.{hosted, unhosted}

-- a program that was set up and waits for no mailbox, as it is held
starts_held : (shows : List Show) (i : ℕ) (w : W.Program) (x : Hosted) → S.Holds follows has_ended shows i w (T.starting w) x → receive_in x.program ≡ None → Holds shows i w (starting w) x
starts_held shows i w x (S.on_its_way k) none =
    on_its_way (record {
      follow = (k.follow.0, k.follow.1, none, λ r e. let z : None ≡ Some r = sym none ∙ e in absurd cc);
      ended_is = k.ended_is ∙ same_gone w;
      told_end = sym (sym (same_gone w) ∙ k.live);
      as_many = refl;
      memory_is = λ some. let never : ⊥ = omega (arith, some) in absurd never;
      looks = k.looks;
      live = sym (same_gone w) ∙ k.live;
    })
starts_held shows i w x (S.has_gone is told looks) none = has_gone (sym (same_gone w) ∙ is) refl looks (not_parked x none)

pub begins_no_mail : (ws : List W.Program) (shows : List Show) (xs : List Program) (detaches : List Detach) (boxes : List (List ℕ)) (ds : List Device) → AreSetUp ws shows xs → NoneWaits xs
    → BeginsMailWorld 0 ws detaches boxes ds [] (map starting ws)
begins_no_mail ws shows xs detaches boxes ds set none =
    mail_told_begins 0 ws detaches boxes ds ds (empty_mail boxes) 0 0 [] (map starting ws) (nothing_mail_told 0 ws detaches boxes ds).0 (zipped HasStory ws (map starting ws) (length-map ws starting) each)
  where
    start : AllStart follows has_ended shows ws (map hosted xs) (map (λ (x : Hosted). Some 0) (map hosted xs))
    start = all_start ws shows (map hosted xs) xs (unhosted xs) set

    each : (i : ℕ) (w : W.Program) (t : Teller) → slice_get ws i ≡ Some w → slice_get (map starting ws) i ≡ Some t → HasStory w t
    each i w t ew et =
        let y = item xs i (omega (arith, slice_get_within ws i w ew, set.wide)) in
        let there : slice_get (map hosted xs) i ≡ Some (hosted y.0) = slice_get-map hosted xs i ∙ ap (option_map hosted) y.1 in
        let is : starting w ≡ t = same_Some (starting w) t (ap (option_map starting) (sym ew) ∙ sym (slice_get-map starting ws i) ∙ et) in
        subst (HasStory w) is
        (held_has_story shows i w (starting w) (hosted y.0) (starts_held shows i w (hosted y.0) (start.each i w (hosted y.0) ew there) (all_at (λ (x : Program). receive_in x ≡ None) xs i y.0 none y.1)))
