-- What a program that is held has told begins its story, where there are mailboxes.
use Rattle.std.proofs.Common.{arith, ◌≡◌, ◌<◌, ℕ, List, [], ◌∷◌, ◌++◌, length, Option, Some, None, Bool, true, false, ◌||◌, refl, sym, ap, ◌∙◌, subst, append-nil}
use Rattle.std.specs.Option.{is_some}
use Rattle.wa_model.specs.Plan.{Entry, Outcome}
use Rattle.wa_model.specs.Blocking.{Note}
use Rattle.world_model.specs.World.{Origin, Program, at_pause, at_start, gone, is_end, protocol_story}
use Rattle.world_laws.proofs.Counting.{Ends}
use Rattle.world_laws.proofs.Rests.{further}
use Rattle.event_order.specs.declared.shows.Show.{Show}
use Rattle.host_laws.specs.Places.{Place, has_ended as at_end, nowhere, stands}
use Rattle.host_laws.specs.Stories.{IsAt}
use Rattle.mail_laws.specs.MailWorld.{begins_over, over_at, to_end}
use Rattle.mail_laws.specs.Told.{Await, HasStory, IsRest, Teller, ends_program}
use Rattle.pause_host.specs.Programs.{end_at, place_of}
use Rattle.many_host.specs.declared.hosted.Hosted.{Hosted}
use Rattle.many_host.specs.MailStanding.{Holds, IsHeld, has_gone, has_stalled, met_so_far, on_its_way}
use Rattle.many_host.specs.ToldMail.{HeldHasStory}
use Rattle.many_host.specs.Turns.{is_gone, is_over_at}
use Rattle.many_host.specs.Turns as T
use Rattle.host_laws.proofs.Tellings.{place_begins, place_whole}
use Rattle.many_host.proofs.Origins.{no_story}
use Rattle.many_host.proofs.Stories.{rest_ends}

-- ---- the same said of programs without mailboxes

same_over : (entries : List Entry) (o : Origin) → is_over_at entries o ≡ over_at entries o
same_over entries at_start = refl
same_over entries gone = refl
same_over entries (at_pause x) = refl

pub same_gone : (w : Program) → is_gone w ≡ begins_over w
same_gone w = same_over w.plan.entries w.origin

pub same_ends : (xs : List Note) → T.ends_program xs ≡ ends_program xs
same_ends [] = refl
same_ends (x ∷ xs) = ap (λ (b : Bool). is_end x.event || b) (same_ends xs)

-- ---- stories

some_rest : (xs : List Note) → Ends xs → 0 < length xs
some_rest [] h = absurd h
some_rest (x ∷ xs) h = omega arith

module _ (w : Program) (t : Teller) where
  rest_is : (b : Bool) (r : Option Await) (rest : List Note) → t.has_ended ≡ b → t.receive ≡ r → IsRest b r rest → IsRest t.has_ended t.receive rest
  rest_is b r rest e q h = subst (λ (c : Bool). IsRest c t.receive rest) (sym e) (subst (λ (s : Option Await). IsRest b s rest) (sym q) h)

  has_story : (rest : List Note) (more : List Outcome) → protocol_story w (met_so_far t ++ more) ≡ t.told ++ rest → IsRest t.has_ended t.receive rest → HasStory w t
  has_story rest more story is = record {
    value = 0;
    small = omega arith;
    rest = rest;
    more = more;
    story = to_end (sym story);
    is_rest = is;
  }

module _ (shows : List Show) (i : ℕ) (w : Program) (t : Teller) (x : Hosted) where
  by_place : (held : IsHeld shows i w t x) (place : Place) → IsAt w t.told (met_so_far t) x.program.steps_left place → is_some (end_at place) ≡ t.has_ended → HasStory w t
  by_place held (at_end how) at e =
      has_story w t [] []
      (ap (protocol_story w) (append-nil (met_so_far t)) ∙ sym (place_whole w t.told (met_so_far t) x.program.steps_left how at) ∙ sym (append-nil t.told))
      (rest_is w t true t.receive [] (sym e) refl refl)
  by_place held nowhere at e = absurd at
  by_place held (stands ready h) at e = by_receive t.receive refl
    where
      begins : (rest : List Note) × (protocol_story w (met_so_far t ++ []) ≡ t.told ++ rest)
      begins = place_begins w t.told (met_so_far t) x.program.steps_left (stands ready h) at []

      by_receive : (r : Option Await) → t.receive ≡ r → HasStory w t
      by_receive (Some r) q = has_story w t begins.0 [] begins.1 (rest_is w t false (Some r) begins.0 (sym e) q tt)
      by_receive None q =
          let f = further w (met_so_far t) t.told [] [] held.as_many [] begins.0 begins.1 in
          let ends = rest_ends w (met_so_far t) t.told [] [] held.as_many (same_ends t.told ∙ held.told_end ∙ sym e) (same_gone w ∙ held.live) f in
          has_story w t f.full f.outcomes f.story (rest_is w t false None f.full (sym e) q (some_rest f.full ends))

  pub held_has_story : Holds shows i w t x → HasStory w t
  held_has_story (on_its_way held) = by_place held (place_of x.program x.program.state) held.follow.0.at.told held.ended_is
  held_has_story (has_stalled s) = s.story
  held_has_story (has_gone is told looks awake) =
      has_story w t [] []
      (no_story w (same_gone w ∙ is) (met_so_far t ++ []) ∙ ap (λ (z : Teller). z.told ++ []) (sym told))
      (rest_is w t true t.receive [] (ap (λ (z : Teller). z.has_ended) told ∙ is) refl refl)

pub held_stories : HeldHasStory
held_stories shows i w t x holds = held_has_story shows i w t x holds
