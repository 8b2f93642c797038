-- How many turns and lines a host with mailboxes tells.
use Rattle.std.proofs.Common.{arith, ◌≡◌, ◌≤◌, ◌<◌, ℕ, suc, ◌+◌, ◌*◌, ◌^◌, List, [], ◌∷◌, ◌++◌, length, length-append, map, drop, Some, Bool, true, false, slice_get, refl, sym, ap, ◌∙◌, append_assoc}
use Rattle.std.proofs.lemmas.Option.{slice_get_within}
use Rattle.wa_model.specs.declared.answers.Detach.{Detach}
use Rattle.wa_model.specs.Outside.{Line}
use Rattle.wa_model.specs.Plan.{Outcome}
use Rattle.wa_model.specs.Blocking.{Note}
use Rattle.wa_model.specs.Behaves.{IsPrefix}
use Rattle.world_model.specs.World.{Device, Program, line_at, protocol_story}
use Rattle.world_laws.proofs.Places.{item}
use Rattle.world_laws.proofs.StoryTurns.{begun_turns, one_if}
use Rattle.pause_host.proofs.Advancing.{begins_of_follows}
use Rattle.event_order.specs.Looks.{looks_of}
use Rattle.mailbox_device.specs.Mail.{Mail}
use Rattle.mail_laws.specs.MailWorld.{HeldStory, to_end, to_wait}
use Rattle.mail_laws.specs.Told.{HasStory, Teller, pending}
use Rattle.many_host.specs.Hosts.{memory_of}
use Rattle.many_host.specs.MailHosts.{HostTellsFrom}
use Rattle.many_host.specs.MailStanding.{Holds, IsTelling, StandingFrom, StandsAtFrom, has_gone, has_stalled, met_so_far, on_its_way}
use Rattle.many_host.specs.Standing.{Held, held_of, looks_at}
use Rattle.many_host.specs.declared.host.Host.{Host}
use Rattle.many_host.specs.declared.hosted.Hosted.{Hosted}
use Rattle.many_host.specs.declared.turn_taking.Stage.{Stage}
use Rattle.many_host.specs.declared.turn_taking.Stage.TheVariants.{Between, Telling, Showing}
use Rattle.many_host.proofs.FewLines.{all_looks, looks_are, looks_few}
use Rattle.many_host.proofs.MailSums.{end_lines, events_by, few_pauses, few_sum, lines_by, on_sums, sum_all, sum_of, tells_sums}
use Rattle.many_host.proofs.StoryLines.{begun_lines}

-- ---- one program

-- what it has told begins a story
begins_so : (w : Program) (os : List Outcome) (told rest : List Note) → HeldStory w os (told ++ rest) → IsPrefix told (protocol_story w os)
begins_so w os told rest (to_end e) = (rest, sym e)
begins_so w os told rest (to_wait more e p) = (rest ++ more, e ∙ append_assoc told rest more)

one_end : (b : Bool) → one_if b ≤ 1
one_end true = omega arith
one_end false = omega arith

few_ends : (b : Bool) (looks : ℕ) → end_lines b looks ≤ suc looks
few_ends true looks = omega arith
few_ends false looks = omega arith

module _ (w : Program) (t : Teller) (os : List Outcome) (begins : IsPrefix t.told (protocol_story w os)) (steps : w.steps ≤ 1000000000) where
  turns_so : events_by w t ≤ 125000002
  turns_so =
      let first = begun_turns w os t.told begins in
      let few = few_pauses t.told in
      let one = one_end t.has_ended in
      omega (arith, first, few, one, steps)

  lines_so : lines_by w t ≤ 3000000002 + 2 * length w.looks
  lines_so =
      let first = begun_lines (length w.looks) w os t.told begins in
      let few = few_ends t.has_ended (length w.looks) in
      omega (arith, first, few, steps)

-- ---- all of them

sum_turns : (ws : List Program) → sum_all (λ w. 125000002) ws ≡ length ws * 125000002
sum_turns [] = refl
sum_turns (w ∷ ws) = let rest = sum_turns ws in omega (arith, rest)

sum_lines : (ws : List Program) → sum_all (λ (w : Program). 3000000002 + 2 * length w.looks) ws ≡ length ws * 3000000002 + 2 * all_looks ws
sum_lines [] = refl
sum_lines (w ∷ ws) = let rest = sum_lines ws in omega (arith, rest)

module _ (begun : ℕ) (programs : List Program) (detaches : List Detach) (boxes : List (List ℕ)) (ds : List Device) (lines : List Line) (h : Held Hosted) (last : ℕ) (ds' : List Device) (mail : Mail)
    (stage : Stage) (s : StandingFrom begun programs detaches boxes ds lines h last ds' mail stage) (few : length h.programs ≤ 16) where
  held_at : (i : ℕ) (w : Program) → slice_get programs i ≡ Some w → (t : Teller) × (x : Hosted) × (slice_get s.tellers i ≡ Some t) × Holds h.shows i w t x
  held_at i w there =
      let within : i < length programs = slice_get_within programs i w there in
      let t = item s.tellers i (let e = s.wide in omega arith) in
      let x = item h.programs i (let k = s.as_many in omega arith) in
      (t.0, x.0, t.1, s.each i w t.0 x.0 there t.1 x.1)

  looks_by : (i : ℕ) (w : Program) (t : Teller) (x : Hosted) → Holds h.shows i w t x → w.looks ≡ looks_of i h.shows
  looks_by i w t x (on_its_way held) = held.looks
  looks_by i w t x (has_stalled held) = held.looks
  looks_by i w t x (has_gone is told looks awake) = looks

  looks_shown : all_looks programs ≤ length h.shows
  looks_shown =
      let are = looks_are h.shows 0 programs
      (λ i w there. let z = held_at i w there in looks_by i w z.0 z.1 z.3 ∙ ap (λ k. looks_of k h.shows) (let same : i ≡ 0 + i = omega arith in same)) in
      let most = looks_few (length programs) 0 h.shows in
      omega (arith, are, most)

  turns_by : (i : ℕ) (w : Program) (t : Teller) (x : Hosted) → Holds h.shows i w t x → (events_by w t ≤ 125000002) × (lines_by w t ≤ 3000000002 + 2 * length w.looks)
  turns_by i w t x (on_its_way held) =
      let begins = begins_of_follows w t.told (met_so_far t) x.program held.follow.0 [] in
      let steps = held.follow.0.at.few_steps in
      (turns_so w t (met_so_far t ++ []) begins steps, lines_so w t (met_so_far t ++ []) begins steps)
  turns_by i w t x (has_stalled held) =
      let y : HasStory w t = held.story in
      let begins = begins_so w (t.met ++ pending y.value t.receive ++ y.more) t.told y.rest y.story in
      (turns_so w t (t.met ++ pending y.value t.receive ++ y.more) begins held.few_steps, lines_so w t (t.met ++ pending y.value t.receive ++ y.more) begins held.few_steps)
  turns_by i w t x (has_gone is told looks awake) =
      let one = one_end t.has_ended in
      let ends = few_ends t.has_ended (length w.looks) in
      let none = ap (λ (z : Teller). events_by w (record t { told = z.told })) told in
      let quiet = ap (λ (z : Teller). lines_by w (record t { told = z.told })) told in
      (omega (arith, one, none), omega (arith, ends, quiet))

  each_few : (i : ℕ) (w : Program) (t : Teller) → slice_get programs i ≡ Some w → slice_get s.tellers i ≡ Some t → (events_by w t ≤ 125000002) × (lines_by w t ≤ 3000000002 + 2 * length w.looks)
  each_few i w t ew et =
      let within : i < length programs = slice_get_within programs i w ew in
      let x = item h.programs i (let k = s.as_many in omega arith) in
      turns_by i w t x.0 (s.each i w t x.0 ew et x.1)

  few_events : sum_of events_by programs s.tellers ≤ 2000000032
  few_events =
      let many = few_sum events_by (λ w. 125000002) programs s.tellers (λ i w t ew et. (each_few i w t ew et).0) in
      let sum = sum_turns programs in
      let count : length programs ≤ 16 = (let k = s.as_many in omega arith) in
      omega (arith, many, sum, count)

  all_lines : sum_of lines_by programs s.tellers ≤ 48000000032 + 2 * length h.shows
  all_lines =
      let many = few_sum lines_by (λ (w : Program). 3000000002 + 2 * length w.looks) programs s.tellers (λ i w t ew et. (each_few i w t ew et).1) in
      let sum = sum_lines programs in
      let count : length programs ≤ 16 = (let k = s.as_many in omega arith) in
      let looks = looks_shown in
      omega (arith, many, sum, count, looks)

  pub few_begun : s.count < 2 ^ 31
  few_begun = by stage s.at
    where
      by : (g : Stage) → StandsAtFrom begun programs detaches boxes ds s.count lines s.tellers h last ds' mail g → s.count < 2 ^ 31
      by Between at = let n = (tells_sums begun programs detaches boxes ds s.count lines s.tellers _ at.0).0 in omega (arith, n, few_events)
      by (Telling turn) at = let n = (on_sums begun programs detaches boxes ds at.0 turn.program turn.due lines s.tellers _ at.6).0 in omega (arith, n, few_events, at.1)
      by (Showing turn from) at = let n = (tells_sums begun programs detaches boxes ds s.count _ s.tellers _ at.2).0 in omega (arith, n, few_events)

  pub few_lines_told : length lines ≤ 48000000032 + 2 * length h.shows
  few_lines_told = by stage s.at
    where
      by : (g : Stage) → StandsAtFrom begun programs detaches boxes ds s.count lines s.tellers h last ds' mail g → length lines ≤ 48000000032 + 2 * length h.shows
      by Between at = let n = (tells_sums begun programs detaches boxes ds s.count lines s.tellers _ at.0).1 in omega (arith, n, all_lines)
      by (Telling turn) at = let n = (on_sums begun programs detaches boxes ds at.0 turn.program turn.due lines s.tellers _ at.6).1 in omega (arith, n, all_lines)
      by (Showing turn from) at =
          let rest : List Line = map (line_at turn.due turn.program) (looks_at (memory_of at.0) (looks_of turn.program (drop from h.shows))) in
          let n = (tells_sums begun programs detaches boxes ds s.count (lines ++ rest) s.tellers _ at.2).1 in
          let sum = length-append lines rest in
          omega (arith, n, all_lines, sum)

-- Fewer than 2^31 turns have begun since.
pub few_mail_turns : (h : Held Hosted) (last : ℕ) (ds' : List Device) (mail : Mail) (stage : Stage) → IsTelling h last ds' mail stage → length h.programs ≤ 16 → h.begun < h.earlier + 2 ^ 31
few_mail_turns h last ds' mail stage t few =
    let many = few_begun t.begun t.programs t.detaches t.boxes t.devices t.lines h last ds' mail stage t.stands few in
    omega (arith, many, t.stands.begun_is, t.stands.earlier_is)

-- A host with mailboxes has told few lines.
pub few_mail_lines : (begun : ℕ) (programs : List Program) (detaches : List Detach) (boxes : List (List ℕ)) (ds : List Device) (lines : List Line) (h : Host) (ds' : List Device) (mail : Mail)
    → HostTellsFrom begun programs detaches boxes ds lines h ds' mail → length h.turns.programs.items ≤ 16 → length lines ≤ 48000000032 + 2 * length h.turns.shows.items
few_mail_lines begun programs detaches boxes ds lines h ds' mail told few =
    few_lines_told begun programs detaches boxes ds lines (held_of h.turns) h.turns.last ds' mail h.turns.stage told few
