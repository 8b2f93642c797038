-- The parts of sections.
use Rattle.std.proofs.Common.{◌≡◌, ℕ, ◌+◌, ◌<◌, List, [], ◌++◌, Ok, refl, ap, sym, ◌∙◌, arith, append-nil, length, length-append}
use Rattle.leb_numbers.specs.Leb.{IsUnsigned}
use Rattle.wa_types.specs.Syntax.{Custom}
use Rattle.wa_types.specs.Spells.{◌▸◌, Exactly, Number, Filling, Text}
use Rattle.wasm_grammar.specs.Places.{Place, place_in, with_more, ReadsNumber}
use Rattle.wasm_build.specs.Builds.{Between}
use Rattle.wasm_build.specs.BuildsSections.{SpelledCustom}
use Rattle.wasm_build.proofs.Betweens.{parts, behind_first, number_is, taken_is}
use Rattle.wasm_build.proofs.Steps.{more_left}

-- a custom section's content is taken, and read as bytes of their own
pub record Content (c : Custom) (after : ℕ) (got : List ℕ) (new end : Place) : Type 0 where
  pub behind : c.after ≡ after
  pub ends : new ≡ end
  pub between : Between (Text c.name ▸ Exactly c.bytes) (place_in got 0) (record { at = length got; left = [] })

pub content : (c : Custom) (after n : ℕ) (got : List ℕ) (old here new : Place) (more : List ℕ) (end : Place) → ReadsNumber (IsUnsigned 32) (Ok n) old here → here.left ≡ got ++ new.left
    → length got ≡ n → new.at ≡ here.at + n → Between (SpelledCustom after c) (with_more old more) end → Content c after got (with_more new more) end
content c after n got old here new more end r e f g b =
    let h = b.spelled.1 in
    let k = parts (Number h.0) (Filling h.0 (Text c.name ▸ Exactly c.bytes)) (with_more old more) end (record { front = b.front; spelled = h.1; left = b.left; place = b.place }) in
    let m = number_is (IsUnsigned 32) n old here more k.middle h.0 r k.first in
    let rest = behind_first _ _ (with_more old more) end (with_more here more) k m.1 in
    let whole = taken_is got n rest.front (with_more here more) (with_more new more) end (more_left here.left got new.left more e) f g (m.0 ∙ sym rest.spelled.0)
    (record { front = rest.front; spelled = refl; left = rest.left; place = rest.place }) in
    record {
      behind = b.spelled.0;
      ends = whole.1;
      between = record { front = rest.front; spelled = rest.spelled.1; left = whole.0 ∙ sym (append-nil rest.front); place = let e = ap length whole.0 in omega (arith, e) };
    }

-- a content that is cut off isn't whole
pub cut_content : (c : Custom) (after n : ℕ) (old here : Place) (more : List ℕ) (end : Place) → ReadsNumber (IsUnsigned 32) (Ok n) old here → length here.left < n
    → Between (SpelledCustom after c) (with_more old more) end → more ≡ [] → ⊥
cut_content c after n old here more end r few b none =
    let h = b.spelled.1 in
    let k = parts (Number h.0) (Filling h.0 (Text c.name ▸ Exactly c.bytes)) (with_more old more) end (record { front = b.front; spelled = h.1; left = b.left; place = b.place }) in
    let m = number_is (IsUnsigned 32) n old here more k.middle h.0 r k.first in
    let rest = behind_first _ _ (with_more old more) end (with_more here more) k m.1 in
    let all = ap length rest.left in
    let long = rest.spelled.0 in
    omega (arith, few, m.0, long, all, ap length none, length-append here.left more, length-append rest.front end.left)

pub left_is : (bytes : List ℕ) (here : Place) (k : ℕ) → Between (Exactly bytes) here (record { at = k; left = [] }) → here.left ≡ bytes
left_is bytes here k b = b.left ∙ append-nil b.front ∙ b.spelled
