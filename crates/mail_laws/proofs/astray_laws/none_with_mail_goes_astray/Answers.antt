use Rattle.mail_laws.proofs.Astray.{none_astray, none_astray_untold}
use Rattle.mail_laws.proofs.astray_laws.none_with_mail_goes_astray.Goals as goal

pub returns-clause-told : goal.returns-clause-told
returns-clause-told c = none_astray

pub returns-clause-untold : goal.returns-clause-untold
returns-clause-untold c = none_astray_untold
