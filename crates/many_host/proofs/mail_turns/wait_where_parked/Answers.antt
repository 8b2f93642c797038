use Rattle.std.proofs.Common.{◌≡◌, ◌∙◌, ap, sym, subst}
use Rattle.std.specs.Prelude.{OnOk, is_some}
use Rattle.std.specs.Option.{option_map}
use Rattle.std.proofs.lemmas.Result.{on_ok_weaker}
use Rattle.many_host.specs.MailStanding.{with_waiting}
use Rattle.many_host.proofs.MailWaits.{empty_there, is_found, waits_now}
use Rattle.many_host.proofs.mail_turns.wait_where_parked.Goals as goal

pub unreachable-requires : goal.unreachable-requires
unreachable-requires c =
    is_found c.args.program c.in-Some.name.now c.args.mail.now (c.requires c.in-Some.name.now (ap (option_map (λ n. n.now)) c.in-Some.is)) (sym c.find.ensures ∙ c.in_default-find.is)

pub wait-requires-clause-empty : goal.wait-requires-clause-empty
wait-requires-clause-empty c =
    empty_there c.args.program c.in-Some.name.now c.args.mail.now c.in-Some-find.place (sym c.find.ensures ∙ c.in-Some-find.is)
    (c.requires c.in-Some.name.now (ap (option_map (λ n. n.now)) c.in-Some.is))

pub wait-requires-clause-nowhere : goal.wait-requires-clause-nowhere
wait-requires-clause-nowhere c = (c.requires c.in-Some.name.now (ap (option_map (λ n. n.now)) c.in-Some.is)).nowhere

pub returns-clause-waits : goal.returns-clause-waits
returns-clause-waits c =
    subst (λ o. OnOk c.wait.result (c.wait.new.self ≡ with_waiting c.args.program (option_map (λ n. n.now) o) c.args.mail.now)) (sym c.in-Some.is)
    (on_ok_weaker c.wait.result (waits_now c.args.program c.in-Some.name.now c.args.mail.now c.in-Some-find.place (sym c.find.ensures ∙ c.in-Some-find.is) c.wait.new.self)
    c.wait.ensures.waits)

pub returns-clause-parked : goal.returns-clause-parked
returns-clause-parked c = λ err. ap (λ o. is_some (option_map (λ n. n.now) o)) c.in-Some.is
