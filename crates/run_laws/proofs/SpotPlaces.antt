-- A spot just before a call is at that call's place among all calls of the body.
use Rattle.std.proofs.Common.{arith, ◌≡◌, ℕ, suc, ◌+◌, ◌-◌, ◌++◌, List, [], ◌∷◌, map, length, drop, Option, Some, None, Bool, true, false, refl, sym, ap, ◌∙◌, append_assoc, append-nil}
use Rattle.std.specs.Prelude.{slice_get}
use Rattle.std.specs.Option.{option_map}
use Rattle.std.proofs.lemmas.Option.{slice_get-map}
use Rattle.std.proofs.lemmas.List.{length-append}
use Rattle.wa_types.specs.declared.values.ValType.{ValType}
use Rattle.wa_types.specs.Syntax.{Plain, a_block, a_loop, Code, done, plain, nest, branch, Func, Module}
use Rattle.wa_types.specs.Pruned.{is_last, pruned}
use Rattle.wa_types.specs.Typing.{Around, listed, label, sig}
use Rattle.wa_types.specs.Modules.{around}
use Rattle.wa_types.specs.Pausing.{Callee, callee, calls_of, calls_in}
use Rattle.wa_types.specs.Points.{after, unless_last, func_call_points}
use Rattle.wa_types.specs.Liveness.{Label as Continuation, goes_behind, goes_again, label_of, Position, position, behind_calls}
use Rattle.wa_types.proofs.PointLemmas.{takes_after, passes}
use Rattle.wa_types.proofs.PlaceLemmas.{last_no_call}
use Rattle.wa_model.specs.Configuration.{Label, call_count, calls_behind, calls_outside, place_of}
use Rattle.run_laws.specs.Sites.{Site, site_of, sites, continuation}
use Rattle.run_laws.proofs.Spots.{callees_of, places_of, points_of, sites_length, Spot, at_start, past, in_block, in_loop, behind_nest, in_arm, in_else, behind_branch}

abbrev continuations : List Label → List Continuation
continuations labels = map continuation labels

-- The calls of a body are those before the spot, those of its code, and those outside, which its labels count.
record Found (c : Around) (body : Code) (results : List (Option ValType)) (labels : List Label) (code : Code) (own below : List ValType) : Type 0 where
  before : List Site
  outside : List Site
  all : sites c (c.result ∷ []) [] body [] [] ≡ before ++ (sites c results (map continuation labels) code below own ++ outside)
  count : length outside ≡ calls_outside labels

-- the first, or the second, of three lists
first_of : (all before xs ys zs : List Site) → all ≡ before ++ ((xs ++ ys) ++ zs) → all ≡ before ++ (xs ++ (ys ++ zs))
first_of all before xs ys zs e = e ∙ ap (λ q. before ++ q) (append_assoc xs ys zs)

second_of : (all before xs ys zs : List Site) → all ≡ before ++ ((xs ++ ys) ++ zs) → all ≡ (before ++ xs) ++ (ys ++ zs)
second_of all before xs ys zs e = first_of all before xs ys zs e ∙ sym (append_assoc before xs (ys ++ zs))

no_sites : (xs : List Site) → xs ≡ xs ++ []
no_sites xs = sym (append-nil xs)

-- what a label adds to the calls behind
block_count : (rest skipped : Code) (labels : List Label)
    → length (calls_of (pruned skipped) ++ (calls_of (pruned rest) ++ calls_behind labels)) ≡ call_count skipped + call_count rest + calls_outside labels
block_count rest skipped labels =
    let first = length-append (calls_of (pruned skipped)) (calls_of (pruned rest) ++ calls_behind labels) in
    let second = length-append (calls_of (pruned rest)) (calls_behind labels) in
    omega (arith, first, second)

done_count : call_count done ≡ 0
unfolding calls_of pruned
done_count = refl

found : (c : Around) (body : Code) (results : List (Option ValType)) (labels : List Label) (code : Code) (own below : List ValType)
    → Spot c body results labels code own below → Found c body results labels code own below
unfolding sites
found c body results labels code own below (at_start e) =
    record { before = []; outside = []; all = ap (λ ls. sites c ls [] body [] []) (sym e) ∙ no_sites (sites c results [] body [] []); count = refl }
found c body results labels code own below (past p own' last takes s) =
    let k = found c body results labels (plain p code) own' below s in
    let here : List Site = site_of (callee p) (position (pruned code) (continuations labels)) (own' ++ below) in
    let rest : List Site = sites c results (continuations labels) code below own in
    let same : own ≡ after (sig c results p) own' = takes_after (sig c results p) own' own (passes c results p last) takes in
    let goes : unless_last (is_last p) (sites c results (continuations labels) code below (after (sig c results p) own')) ≡ rest =
    ap (λ b. unless_last b (sites c results (continuations labels) code below (after (sig c results p) own'))) last ∙ ap (sites c results (continuations labels) code below) (sym same) in
    record {
      before = k.before ++ here;
      outside = k.outside;
      all = second_of (sites c (c.result ∷ []) [] body [] []) k.before here rest k.outside (k.all ∙ ap (λ q. k.before ++ ((here ++ q) ++ k.outside)) goes);
      count = k.count;
    }
found c body _ _ code own below (in_block {results} {labels} {r} {inner} {rest} {skipped} own' below' ea eh er es s) =
    let k = found c body results labels (nest a_block r code rest) own' below' s in
    let inside : List Site = sites c (r ∷ results) (goes_behind (pruned rest) ∷ continuations labels) code (own' ++ below') [] in
    let behind : List Site = sites c results (continuations labels) rest below' (listed r ++ own') in
    let n = sites_length c results (continuations labels) rest below' (listed r ++ own') in
    let none : call_count skipped ≡ 0 = ap call_count es ∙ done_count in
    record {
      before = k.before;
      outside = behind ++ k.outside;
      all =
          first_of (sites c (c.result ∷ []) [] body [] []) k.before inside behind k.outside k.all
          ∙ ap (λ u. k.before ++ (sites c (r ∷ results) (goes_behind (pruned rest) ∷ continuations labels) code u [] ++ (behind ++ k.outside))) (sym ea);
      count =
          length-append behind k.outside
          ∙ counts (length behind) (length k.outside) (call_count rest) (calls_outside labels) (call_count skipped) n k.count none
          ∙ sym (block_count rest skipped labels);
    }
  where
    counts : (a b x y z : ℕ) → a ≡ x → b ≡ y → z ≡ 0 → a + b ≡ z + x + y
    counts a b x y z e f g = omega (arith, e, f, g)
found c body _ _ code own below (in_loop {results} {labels} {inner} {rest} r own' below' ea eh s) =
    let k = found c body results labels (nest a_loop r code rest) own' below' s in
    let again : List Continuation = goes_again (pruned code) (pruned rest) ∷ continuations labels in
    let inside : List Site = sites c (None ∷ results) again code (own' ++ below') [] in
    let behind : List Site = sites c results (continuations labels) rest below' (listed r ++ own') in
    let n = sites_length c results (continuations labels) rest below' (listed r ++ own') in
    record {
      before = k.before;
      outside = behind ++ k.outside;
      all =
          first_of (sites c (c.result ∷ []) [] body [] []) k.before inside behind k.outside k.all
          ∙ ap (λ u. k.before ++ (sites c (None ∷ results) again code u [] ++ (behind ++ k.outside))) (sym ea);
      count =
          length-append behind k.outside
          ∙ counts (length behind) (length k.outside) (call_count rest) (calls_outside labels) n k.count
          ∙ sym (length-append (calls_of (pruned rest)) (calls_behind labels));
    }
  where
    counts : (a b x y : ℕ) → a ≡ x → b ≡ y → a + b ≡ x + y
    counts a b x y e f = omega (arith, e, f)
found c body results labels code own below (behind_nest s r inner own' e p) =
    let k = found c body results labels (nest s r inner code) own' below p in
    let inside : List Site = sites c (label s r ∷ results) (label_of s (pruned inner) (pruned code) ∷ continuations labels) inner (own' ++ below) [] in
    let behind : List Site = sites c results (continuations labels) code below (listed r ++ own') in
    record {
      before = k.before ++ inside;
      outside = k.outside;
      all =
          second_of (sites c (c.result ∷ []) [] body [] []) k.before inside behind k.outside k.all
          ∙ ap (λ u. (k.before ++ inside) ++ (sites c results (continuations labels) code below u ++ k.outside)) (sym e);
      count = k.count;
    }
found c body _ _ code own below (in_arm {results} {labels} {r} {a} {b} {rest} own' lower below' ei ea eh er s) =
    let k = found c body results labels (branch r code b rest) own' below' s in
    let inner : List Continuation = goes_behind (pruned rest) ∷ continuations labels in
    let kept : drop 1 own' ≡ lower = ap (drop 1) ei in
    let base : List ValType = drop 1 own' ++ below' in
    let under : base ≡ below = ap (λ u. u ++ below') kept ∙ sym ea in
    let first : List Site = sites c (r ∷ results) inner code base [] in
    let second : List Site = sites c (r ∷ results) inner b base [] in
    let third : List Site = sites c results (continuations labels) rest below' (listed r ++ drop 1 own') in
    let n = sites_length c (r ∷ results) inner b base [] in
    let o = sites_length c results (continuations labels) rest below' (listed r ++ drop 1 own') in
    record {
      before = k.before;
      outside = (second ++ third) ++ k.outside;
      all =
          first_of (sites c (c.result ∷ []) [] body [] []) k.before first (second ++ third) k.outside k.all
          ∙ ap (λ u. k.before ++ (sites c (r ∷ results) inner code u [] ++ ((second ++ third) ++ k.outside))) under;
      count =
          counts (length ((second ++ third) ++ k.outside)) (length (second ++ third)) (length second) (length third) (length k.outside) (call_count b) (call_count rest)
          (calls_outside labels) (length-append (second ++ third) k.outside) (length-append second third) n o k.count
          ∙ sym (block_count rest b labels);
    }
  where
    counts : (t u x y z p q w : ℕ) → t ≡ u + z → u ≡ x + y → x ≡ p → y ≡ q → z ≡ w → t ≡ p + q + w
    counts t u x y z p q w d e f g h = omega (arith, d, e, f, g, h)
found c body _ _ code own below (in_else {results} {labels} {r} {b} {rest} {skipped} a own' lower below' ei ea eh er es s) =
    let k = found c body results labels (branch r a code rest) own' below' s in
    let inner : List Continuation = goes_behind (pruned rest) ∷ continuations labels in
    let kept : drop 1 own' ≡ lower = ap (drop 1) ei in
    let base : List ValType = drop 1 own' ++ below' in
    let under : base ≡ below = ap (λ u. u ++ below') kept ∙ sym ea in
    let first : List Site = sites c (r ∷ results) inner a base [] in
    let second : List Site = sites c (r ∷ results) inner code base [] in
    let third : List Site = sites c results (continuations labels) rest below' (listed r ++ drop 1 own') in
    let o = sites_length c results (continuations labels) rest below' (listed r ++ drop 1 own') in
    let none : call_count skipped ≡ 0 = ap call_count es ∙ done_count in
    record {
      before = k.before ++ first;
      outside = third ++ k.outside;
      all =
          second_of (sites c (c.result ∷ []) [] body [] []) k.before first (second ++ third) k.outside k.all
          ∙ ap (λ q. (k.before ++ first) ++ q) (append_assoc second third k.outside)
          ∙ ap (λ u. (k.before ++ first) ++ (sites c (r ∷ results) inner code u [] ++ (third ++ k.outside))) under;
      count =
          length-append third k.outside
          ∙ counts (length third) (length k.outside) (call_count rest) (calls_outside labels) (call_count skipped) o k.count none
          ∙ sym (block_count rest skipped labels);
    }
  where
    counts : (a b x y z : ℕ) → a ≡ x → b ≡ y → z ≡ 0 → a + b ≡ z + x + y
    counts a b x y z e f g = omega (arith, e, f, g)
found c body results labels code own below (behind_branch r a b own' lower ei e s) =
    let k = found c body results labels (branch r a b code) own' below s in
    let inner : List Continuation = goes_behind (pruned code) ∷ continuations labels in
    let kept : drop 1 own' ≡ lower = ap (drop 1) ei in
    let base : List ValType = drop 1 own' ++ below in
    let first : List Site = sites c (r ∷ results) inner a base [] in
    let second : List Site = sites c (r ∷ results) inner b base [] in
    let third : List Site = sites c results (continuations labels) code below (listed r ++ drop 1 own') in
    let own_is : listed r ++ drop 1 own' ≡ own = ap (λ u. listed r ++ u) kept ∙ sym e in
    record {
      before = (k.before ++ first) ++ second;
      outside = k.outside;
      all =
          second_of (sites c (c.result ∷ []) [] body [] []) (k.before ++ first) second third k.outside
          (second_of (sites c (c.result ∷ []) [] body [] []) k.before first (second ++ third) k.outside k.all)
          ∙ ap (λ u. ((k.before ++ first) ++ second) ++ (sites c results (continuations labels) code below u ++ k.outside)) own_is;
      count = k.count;
    }

-- ---- a call

seam : (xs : List Site) (x : Site) (ys : List Site) → slice_get (xs ++ x ∷ ys) (length xs) ≡ Some x
seam [] x ys = refl
seam (z ∷ xs) x ys = seam xs x ys

-- What stands at a call: the callee, the code and labels behind it, and the operands before it, by its place.
pub record AtCall (m : Module) (f : Func) (x : Callee) (rest : Code) (labels : List Label) (before : List ValType) : Type 0 where
  pub callee : slice_get (calls_in f) (place_of (Some f) rest labels) ≡ Some x
  pub behind : slice_get (behind_calls [] (pruned f.body)) (place_of (Some f) rest labels) ≡ Some (position (pruned rest) (map continuation labels))
  pub operands : slice_get (func_call_points m f) (place_of (Some f) rest labels) ≡ Some before

pub at_call : (m : Module) (f : Func) (results : List (Option ValType)) (labels : List Label) (p : Plain) (rest : Code) (own below : List ValType) (x : Callee) → callee p ≡ Some x
    → Spot (around m f) f.body results labels (plain p rest) own below → AtCall m f x rest labels (own ++ below)
unfolding sites
at_call m f results labels p rest own below x e s =
    let c : Around = around m f in
    let k = found c f.body results labels (plain p rest) own below s in
    let whole : List Site = sites c (c.result ∷ []) [] f.body [] [] in
    let tail : List Site = unless_last (is_last p) (sites c results (continuations labels) rest below (after (sig c results p) own)) in
    let site : Site = record { callee = x; behind = position (pruned rest) (continuations labels); operands = own ++ below } in
    let split : whole ≡ k.before ++ (site ∷ (tail ++ k.outside)) = k.all ∙ ap (λ o. k.before ++ ((site_of o (position (pruned rest) (continuations labels)) (own ++ below) ++ tail) ++ k.outside)) e in
    let there : slice_get whole (length k.before) ≡ Some site = ap (λ xs. slice_get xs (length k.before)) split ∙ seam k.before site (tail ++ k.outside) in
    let goes : is_last p ≡ false = call_goes p x e in
    let tail_count : length tail ≡ call_count rest =
    ap (λ b. length (unless_last b (sites c results (continuations labels) rest below (after (sig c results p) own)))) goes
    ∙ sites_length c results (continuations labels) rest below (after (sig c results p) own) in
    let calls : length (calls_in f) ≡ length whole = sym (sites_length c (c.result ∷ []) [] f.body [] []) in
    let sizes = ap length split ∙ length-append k.before (site ∷ (tail ++ k.outside)) in
    let behind_count = length-append tail k.outside in
    let place : place_of (Some f) rest labels ≡ length k.before =
    number (length (calls_in f)) (length whole) (length k.before) (length (tail ++ k.outside)) (length tail) (length k.outside) (call_count rest)
    (calls_outside labels) calls sizes behind_count tail_count k.count in
    record {
      callee = ap (slice_get (calls_in f)) place ∙ seen_callee whole (length k.before) site (callees_of c (c.result ∷ []) [] f.body [] []) there;
      behind = ap (slice_get (behind_calls [] (pruned f.body))) place ∙ seen_place whole (length k.before) site (places_of c (c.result ∷ []) [] f.body [] []) there;
      operands = ap (slice_get (func_call_points m f)) place ∙ seen_point whole (length k.before) site (points_of c (c.result ∷ []) [] f.body [] []) there;
    }
  where
    call_goes : (p : Plain) (x : Callee) → callee p ≡ Some x → is_last p ≡ false
    call_goes p x e = by_last (is_last p) refl
      where
        by_last : (b : Bool) → is_last p ≡ b → b ≡ false
        by_last true f = let bad = sym e ∙ last_no_call p f in cc
        by_last false f = refl

    number : (all whole before behind tail outside count labels : ℕ) → all ≡ whole → whole ≡ before + suc behind → behind ≡ tail + outside
        → tail ≡ count → outside ≡ labels → all - suc (count + labels) ≡ before
    number all whole before behind tail outside count labels a b c d e = omega (arith, a, b, c, d, e)

    seen_callee : {ys : List Callee} (xs : List Site) (i : ℕ) (s : Site) → map (λ (x : Site). x.callee) xs ≡ ys → slice_get xs i ≡ Some s → slice_get ys i ≡ Some s.callee
    seen_callee xs i s e h = ap (λ zs. slice_get zs i) (sym e) ∙ slice_get-map (λ (x : Site). x.callee) xs i ∙ ap (option_map (λ (x : Site). x.callee)) h

    seen_place : {ys : List Position} (xs : List Site) (i : ℕ) (s : Site) → map (λ (x : Site). x.behind) xs ≡ ys → slice_get xs i ≡ Some s → slice_get ys i ≡ Some s.behind
    seen_place xs i s e h = ap (λ zs. slice_get zs i) (sym e) ∙ slice_get-map (λ (x : Site). x.behind) xs i ∙ ap (option_map (λ (x : Site). x.behind)) h

    seen_point : {ys : List (List ValType)} (xs : List Site) (i : ℕ) (s : Site) → map (λ (x : Site). x.operands) xs ≡ ys → slice_get xs i ≡ Some s → slice_get ys i ≡ Some s.operands
    seen_point xs i s e h = ap (λ zs. slice_get zs i) (sym e) ∙ slice_get-map (λ (x : Site). x.operands) xs i ∙ ap (option_map (λ (x : Site). x.operands)) h
