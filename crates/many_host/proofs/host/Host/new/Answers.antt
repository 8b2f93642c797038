use Rattle.std.proofs.Common.{◌∙◌, ap, All, length, map, Some, refl, subst, sym}
use Rattle.std.proofs.lemmas.List.{length-map}
use Rattle.many_host.specs.Hosts.{follows, has_ended}
use Rattle.many_host.specs.Standing.{AllStart, IsDueBy, most_due}
use Rattle.many_host.proofs.DueTicks.{first_due}
use Rattle.many_host.proofs.MailStarts.{mail_host_first}
use Rattle.many_host.proofs.Tellings.{all_start}
use Rattle.many_host.proofs.host.Host.new.Goals as goal

pub returns-clause-told : goal.returns-clause-told
returns-clause-told c = λ ws ds set.
    c.new.ensures.stands ws ds
    (subst (AllStart follows has_ended c.args.shows.items ws c.in_ok-held.held.items) (sym (c.in_ok-dues.ensures ∙ ap (map (λ x. Some 0)) c.deref.ensures.value))
    (all_start ws c.args.shows.items c.in_ok-held.held.items c.args.programs.items c.in_ok-held.ensures set))

pub new-requires-clause-dues : goal.new-requires-clause-dues
new-requires-clause-dues c = subst (All (IsDueBy most_due)) (sym c.in_ok-dues.ensures) (first_due most_due c.deref.result.now)

pub new-requires-clause-wide : goal.new-requires-clause-wide
new-requires-clause-wide c = ap length c.in_ok-dues.ensures ∙ length-map c.deref.result.now (λ x. Some 0) ∙ ap length c.deref.ensures.value

pub returns-clause-mail : goal.returns-clause-mail
returns-clause-mail c = λ ws ds names set none.
    mail_host_first 0 ws names ds (record {
      programs = c.in_ok-held.held.items;
      dues = c.in_ok-dues.dues.items;
      detaches = c.args.detaches.items;
      shows = c.args.shows.items;
      begun = 0;
      earlier = 0;
    }) c.args.programs.items c.in_ok-held.ensures refl refl
    (subst (AllStart follows has_ended c.args.shows.items ws c.in_ok-held.held.items) (sym (c.in_ok-dues.ensures ∙ ap (map (λ x. Some 0)) c.deref.ensures.value))
    (all_start ws c.args.shows.items c.in_ok-held.held.items c.args.programs.items c.in_ok-held.ensures set))
    none c.new.result c.new.ensures.held c.new.ensures.last c.new.ensures.between
