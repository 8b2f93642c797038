use Rattle.std.proofs.Common.{◌≡◌, sym, ◌∙◌, ap, Option, ℕ, Some, subst}
use Rattle.std.proofs.Common.{List}
use Rattle.std.specs.Borrow.{Bor}
use Rattle.std.specs.BTreeMap.{UpdatesBy}
use Rattle.std.specs.Cmp.Lexicographic.{slice_cmp}
use Rattle.std.specs.Ordering.{nat_cmp}
use Rattle.host_setup.proofs.Found.{there_already, put_there}
use Rattle.host_setup.proofs.exports.put_export.Goals as goal

pub returns-then-contains_key : goal.returns-then-contains_key
returns-then-contains_key c = there_already c.args.names.now c.as_str-name.result.now c.args.export.now c.as_str-name.ensures (sym c.contains_key.ensures ∙ c.if-contains_key.true)

pub returns : goal.returns
returns c =
    let value : Some c.func_of.result ≡ Some _ = ap (λ (o : Option ℕ). Some o) c.func_of.ensures in
    put_there c.args.names.now c.insert.new.self c.as_str-name.result.now c.args.export.now c.as_str-name.ensures (sym c.contains_key.ensures ∙ c.if-contains_key.false)
    (subst (λ (w : Option (Option ℕ)). UpdatesBy (λ (x y : Bor (List ℕ)). slice_cmp nat_cmp x.now y.now)
    (λ (k : Bor (List ℕ)). slice_cmp nat_cmp c.as_str-name.result.now k.now) c.args.names.now c.insert.new.self w)
    value c.in_ok-insert.ensures.updates)
