-- What the call of `asyncify` says is handed on.
use Rattle.std.specs.Prelude.{map}
use Rattle.std.specs.String.{string_bytes}
use Rattle.asyncify_app.proofs.Rewriting.{on_command}
use Rattle.asyncify_cli.specs.Answered.{Answers}
use Rattle.asyncify_cli.proofs.answering.answer_with.Goals as goal

pub returns : goal.returns
unfolding Answers
returns g c =
    let e = c.asyncify.ensures in
    let words = map string_bytes c.args.words.now in (
      _,
      record {
        one_end = e.one_end;
        counts = e.counts;
        done = e.done;
        cut = on_command words _ e.cut;
        kept = e.kept;
        scripts_kept = e.scripts_kept;
        usage_kept = e.usage_files;
        prints_done = on_command words _ e.prints_done;
        prints_less = on_command words _ e.prints_less;
        prints_memory = on_command words _ e.prints_memory;
        prints_read = on_command words _ e.prints_read;
        prints_write = on_command words _ e.prints_write;
        prints_refusal = on_command words _ e.prints_refusal;
        prints_usage = e.prints_usage;
        prints_usage_memory = e.prints_usage_memory;
      },
    )
