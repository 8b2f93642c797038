use Rattle.std.proofs.Common.{[], ◌∷◌}
use Rattle.wa_model.specs.declared.events.End.TheVariants.{Done}
use Rattle.gen_module.specs.GeneratedRuns.{wakes}
use Rattle.asyncify_app.proofs.Runs.{before_answer, before_call, before_end, before_pause, before_return, events_told, story_told, the_call}
use Rattle.asyncify_app.proofs.generated_runs.play_through.Goals as goal

pub returns : goal.returns
returns c = λ w used value f tells.
    let first = c.in_ok-hear_call.ensures w [] the_call (before_call w used value tells c.args.program.now f) in
    let second = c.in_ok-used.ensures w (first.note ∷ []) 1 used (before_pause w used value tells c.hear_call.new.program first.note first.event_is first.follows first.ended_is) in
    let paused = second.1 in
    let third = c.in_ok-hear_answer.ensures w (first.note ∷ paused.note ∷ []) wakes.said
    (before_answer w used value tells c.hear_pause.new.program first.note paused.note first.event_is paused.event_is paused.follows paused.ended_is) in
    let fourth = c.in_ok-value.ensures w (first.note ∷ paused.note ∷ third.note ∷ []) 0 value
    (before_return w used value tells c.hear_answer.new.program first.note paused.note third.note first.event_is paused.event_is third.event_is third.follows third.ended_is) in
    let back = fourth.1 in
    let last = c.in_ok-hear_end.ensures w (first.note ∷ paused.note ∷ third.note ∷ back.note ∷ [])
    (before_end w used value tells c.hear_return.new.program first.note paused.note third.note back.note first.event_is paused.event_is third.event_is back.event_is back.follows back.ended_is) in (
      record {
        notes = first.note ∷ paused.note ∷ third.note ∷ back.note ∷ last.note ∷ [];
        story = story_told w c.hear_end.new.program (first.note ∷ paused.note ∷ third.note ∷ back.note ∷ last.note ∷ []) Done last.follows last.ended_is;
        events =
            events_told first.note paused.note third.note back.note last.note used value c.in_ok-used.used c.in_ok-value.value second.0 fourth.0
            first.event_is paused.event_is third.event_is back.event_is last.event_is;
      },
      second.0,
      fourth.0,
    )

pub hear_call-requires : goal.hear_call-requires
hear_call-requires c = let h = c.requires in (h.0, [], the_call, before_call h.0 h.1 h.2 h.4 c.args.program.now h.3)

pub hear_pause-requires : goal.hear_pause-requires
hear_pause-requires c =
    let h = c.requires in
    let first = c.in_ok-hear_call.ensures h.0 [] the_call (before_call h.0 h.1 h.2 h.4 c.args.program.now h.3) in
    (h.0, first.note ∷ [], 1, h.1, before_pause h.0 h.1 h.2 h.4 c.hear_call.new.program first.note first.event_is first.follows first.ended_is)

pub hear_answer-requires : goal.hear_answer-requires
hear_answer-requires c =
    let h = c.requires in
    let first = c.in_ok-hear_call.ensures h.0 [] the_call (before_call h.0 h.1 h.2 h.4 c.args.program.now h.3) in
    let second = c.in_ok-used.ensures h.0 (first.note ∷ []) 1 h.1 (before_pause h.0 h.1 h.2 h.4 c.hear_call.new.program first.note first.event_is first.follows first.ended_is) in
    let paused = second.1 in (
      h.0,
      first.note ∷ paused.note ∷ [],
      wakes.said,
      before_answer h.0 h.1 h.2 h.4 c.hear_pause.new.program first.note paused.note first.event_is paused.event_is paused.follows paused.ended_is,
    )

pub hear_return-requires : goal.hear_return-requires
hear_return-requires c =
    let h = c.requires in
    let first = c.in_ok-hear_call.ensures h.0 [] the_call (before_call h.0 h.1 h.2 h.4 c.args.program.now h.3) in
    let second = c.in_ok-used.ensures h.0 (first.note ∷ []) 1 h.1 (before_pause h.0 h.1 h.2 h.4 c.hear_call.new.program first.note first.event_is first.follows first.ended_is) in
    let paused = second.1 in
    let third = c.in_ok-hear_answer.ensures h.0 (first.note ∷ paused.note ∷ []) wakes.said
    (before_answer h.0 h.1 h.2 h.4 c.hear_pause.new.program first.note paused.note first.event_is paused.event_is paused.follows paused.ended_is) in (
      h.0,
      first.note ∷ paused.note ∷ third.note ∷ [],
      0,
      h.2,
      before_return h.0 h.1 h.2 h.4 c.hear_answer.new.program first.note paused.note third.note first.event_is paused.event_is third.event_is third.follows third.ended_is,
    )

pub hear_end-requires : goal.hear_end-requires
hear_end-requires c =
    let h = c.requires in
    let first = c.in_ok-hear_call.ensures h.0 [] the_call (before_call h.0 h.1 h.2 h.4 c.args.program.now h.3) in
    let second = c.in_ok-used.ensures h.0 (first.note ∷ []) 1 h.1 (before_pause h.0 h.1 h.2 h.4 c.hear_call.new.program first.note first.event_is first.follows first.ended_is) in
    let paused = second.1 in
    let third = c.in_ok-hear_answer.ensures h.0 (first.note ∷ paused.note ∷ []) wakes.said
    (before_answer h.0 h.1 h.2 h.4 c.hear_pause.new.program first.note paused.note first.event_is paused.event_is paused.follows paused.ended_is) in
    let fourth = c.in_ok-value.ensures h.0 (first.note ∷ paused.note ∷ third.note ∷ []) 0 h.2
    (before_return h.0 h.1 h.2 h.4 c.hear_answer.new.program first.note paused.note third.note first.event_is paused.event_is third.event_is third.follows third.ended_is) in
    let back = fourth.1 in (
      h.0,
      first.note ∷ paused.note ∷ third.note ∷ back.note ∷ [],
      before_end h.0 h.1 h.2 h.4 c.hear_return.new.program first.note paused.note third.note back.note first.event_is paused.event_is third.event_is back.event_is back.follows back.ended_is,
    )
