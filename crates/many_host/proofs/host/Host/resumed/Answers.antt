use Rattle.std.proofs.Common.{◌∙◌, ap, All, length, refl, subst, sym}
use Rattle.std.proofs.lemmas.List.{length-map}
use Rattle.many_host.specs.Hosts.{dues_left, follows, has_ended}
use Rattle.many_host.specs.Standing.{AllStart, IsDueBy, most_due}
use Rattle.many_host.proofs.DueTicks.{left_early, left_many}
use Rattle.many_host.proofs.MailStarts.{mail_host_first}
use Rattle.many_host.proofs.Tellings.{all_resumed}
use Rattle.many_host.proofs.host.Host.resumed.Goals as goal

pub returns-clause-told : goal.returns-clause-told
returns-clause-told c = λ ws ds set.
    c.new.ensures.stands ws ds
    (subst (AllStart follows has_ended c.args.shows.items ws c.in_ok-held.held.items)
    (sym (c.in_ok-dues.ensures ∙ (λ k. dues_left (c.deref.ensures.value k) (c.deref-2.ensures.value k))))
    (all_resumed ws c.args.shows.items c.in_ok-held.held.items c.args.programs.items c.args.dues.items c.args.ended.items c.in_ok-held.ensures c.requires.dues c.requires.ended set))

pub new-requires-clause-dues : goal.new-requires-clause-dues
new-requires-clause-dues c =
    subst (All (IsDueBy most_due)) (sym (c.in_ok-dues.ensures ∙ (λ k. dues_left (c.deref.ensures.value k) (c.deref-2.ensures.value k))))
    (left_early most_due c.args.dues.items c.args.ended.items c.requires.early)

pub new-requires-clause-wide : goal.new-requires-clause-wide
new-requires-clause-wide c =
    ap length (c.in_ok-dues.ensures ∙ (λ k. dues_left (c.deref.ensures.value k) (c.deref-2.ensures.value k)))
    ∙ left_many c.args.dues.items c.args.ended.items (c.requires.ended ∙ sym c.requires.dues)
    ∙ c.requires.dues ∙ sym (ap length c.in_ok-held.ensures) ∙ length-map c.in_ok-held.held.items (λ x. x.program)

pub returns-clause-mail : goal.returns-clause-mail
returns-clause-mail c = λ ws ds names set none.
    mail_host_first c.args.events ws names ds (record {
      programs = c.in_ok-held.held.items;
      dues = c.in_ok-dues.dues.items;
      detaches = c.args.detaches.items;
      shows = c.args.shows.items;
      begun = c.args.events;
      earlier = c.args.events;
    }) c.args.programs.items c.in_ok-held.ensures refl refl
    (subst (AllStart follows has_ended c.args.shows.items ws c.in_ok-held.held.items)
    (sym (c.in_ok-dues.ensures ∙ (λ k. dues_left (c.deref.ensures.value k) (c.deref-2.ensures.value k))))
    (all_resumed ws c.args.shows.items c.in_ok-held.held.items c.args.programs.items c.args.dues.items c.args.ended.items c.in_ok-held.ensures c.requires.dues c.requires.ended set))
    none c.new.result c.new.ensures.held c.new.ensures.last c.new.ensures.between
