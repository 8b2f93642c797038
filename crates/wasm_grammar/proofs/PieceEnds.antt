-- Between two pieces of a file, and at its end.
use Rattle.std.proofs.Common.{◌≡◌, ℕ, ◌+◌, ◌-◌, ◌<◌, ◌≤◌, inl, inr, List, [], ◌∷◌, ◌++◌, refl, ap, sym, ◌∙◌, subst, arith, append-nil, length, take, drop, length-append, length-take-le, length-drop, true, false, eqb-true}
use Rattle.std.proofs.lemmas.List.{take_all, take-append-drop, take-append-le, drop_all}
use Rattle.std.proofs.Math.Seq.{take-add}
use Rattle.wa_types.specs.Begun.{Goal, sections, wants, IsPart, Leads, arrived, item, BegunFrom, ends, part, Inside, start, Begun, IsWhole, FaultAt}
use Rattle.file_laws.proofs.Items.{item_some, item_whole}
use Rattle.file_laws.proofs.Runs.{leads_on, leads_only, leads_through, begun_front}
use Rattle.wasm_grammar.specs.Ends.{owes_none, is_end}
use Rattle.wa_types.specs.ModuleBounds.{ModuleBounds}
use Rattle.file_laws.specs.declared.marks.Marks.{Marks}
use Rattle.file_laws.specs.Showing.{no_marks, MarksAlong}
use Rattle.file_laws.proofs.Showings.{marks_begin}
use Rattle.wasm_grammar.specs.Machine.{Stands, IsPartOf, Waits, StopsAt}

place_at : (bytes : List ℕ) (at : ℕ) → at ≤ length bytes → 0 + length (take at bytes) ≡ at
place_at bytes at h = omega (arith, length-take-le at bytes h)

rest_begun : (bytes : List ℕ) (at last : ℕ) (gs : List Goal) → at + length bytes ≡ last → Inside last gs → IsPartOf gs bytes → BegunFrom at gs bytes
rest_begun bytes at last [] e i l = subst (BegunFrom at []) (sym l) ends
rest_begun bytes at last (g ∷ gs) e i l = part l (subst (λ n. Inside n (g ∷ gs)) (sym e) i)

-- what waits is begun
pub waits_begun : {bounds : ModuleBounds} {m : Marks} (bytes : List ℕ) (at : ℕ) (gs : List Goal) → Waits bounds m bytes at gs → Begun bytes
waits_begun bytes at gs w =
    let within = w.stands.within in
    let place = place_at bytes at within in
    subst (BegunFrom 0 start) (take-append-drop at bytes)
    (leads_on 0 start (take at bytes) gs w.stands.leads (drop at bytes)
    (rest_begun (drop at bytes) (0 + length (take at bytes)) (length bytes) gs (omega (arith, place, length-drop at bytes, within)) w.inside w.left))

-- it is no fault that more bytes could mend, but what lacks something is no whole file
wait_fault : {bounds : ModuleBounds} {m : Marks} (bytes : List ℕ) (at : ℕ) (gs : List Goal) → Waits bounds m bytes at gs → (IsWhole bytes → ⊥) → FaultAt bytes (length bytes)
wait_fault bytes at gs w never = record {
  within = omega arith;
  before = λ j lt. begun_front 0 start bytes (waits_begun bytes at gs w) (take j bytes) (drop j bytes) (sym (take-append-drop j bytes));
  stops = inr (refl, never);
}

-- what a whole file needs from a place on
whole_from : {bounds : ModuleBounds} {m : Marks} (bytes : List ℕ) (at : ℕ) (gs : List Goal) → Stands bounds m bytes at gs → (w : IsWhole bytes)
    → Leads (0 + length (take at bytes)) gs (drop at bytes) (sections w.0 0 ∷ [])
whole_from bytes at gs s w = leads_through 0 start (take at bytes) gs s.leads (drop at bytes) bytes (sections w.0 0 ∷ []) w.1 (sym (take-append-drop at bytes))

part_stands : (at : ℕ) (gs hs : List Goal) (bytes : List ℕ) → IsPartOf gs bytes → 0 < length bytes → Leads at gs bytes hs → ⊥
part_stands at [] hs bytes l h arrived = omega (arith, h)
part_stands at (g ∷ gs) hs [] l h k = omega (arith, h)
part_stands at (g ∷ gs) hs (x ∷ bytes) l h (item p q v ks e i t m) = item_whole (wants g) p q v i (subst (IsPart (wants g)) e l)

pub fault_more : {bounds : ModuleBounds} {m : Marks} (bytes : List ℕ) (at : ℕ) (gs : List Goal) → Waits bounds m bytes at gs → at < length bytes → FaultAt bytes (length bytes)
fault_more bytes at gs w h =
    wait_fault bytes at gs w
    (λ z. part_stands (0 + length (take at bytes)) gs (sections z.0 0 ∷ []) (drop at bytes) w.left (omega (arith, length-drop at bytes, h)) (whole_from bytes at gs w.stands z))

-- goals that ask for nothing more
owes_end : (g : Goal) → owes_none g ≡ true → (last : ℕ) × (g ≡ sections last 0)
owes_end (sections last owed) h = (last, ap (sections last) (eqb-true owed 0 h))
owes_end _ h = absurd (let f : false ≡ true = h in cc)

end_is : (gs : List Goal) → is_end gs ≡ true → (last : ℕ) × (gs ≡ sections last 0 ∷ [])
end_is [] h = absurd (let f : false ≡ true = h in cc)
end_is (g ∷ []) h = let e = owes_end g h in (e.0, ap (λ z. z ∷ []) e.1)
end_is (g ∷ k ∷ gs) h = absurd (let f : false ≡ true = h in cc)

lead_nothing : (at : ℕ) (gs hs : List Goal) → Leads at gs [] hs → gs ≡ hs
lead_nothing at gs hs arrived = refl
lead_nothing at (g ∷ gs) hs (item p q v ks e i s l) = absurd (omega (arith, item_some (wants g) p v i, ap length e, length-append p q))

none_left : (bytes : List ℕ) (at : ℕ) → length bytes ≤ at → drop at bytes ≡ []
none_left bytes at h = drop_all at bytes h

pub fault_wanting : {bounds : ModuleBounds} {m : Marks} (bytes : List ℕ) (at : ℕ) (gs : List Goal) → Waits bounds m bytes at gs → length bytes ≤ at → is_end gs ≡ false → FaultAt bytes (length bytes)
fault_wanting bytes at gs w h no_end =
    wait_fault bytes at gs w (λ z.
    let same : gs ≡ sections z.0 0 ∷ [] =
    lead_nothing (0 + length (take at bytes)) gs (sections z.0 0 ∷ []) (subst (λ b. Leads (0 + length (take at bytes)) gs b (sections z.0 0 ∷ [])) (none_left bytes at h)
    (whole_from bytes at gs w.stands z)) in
    let f : true ≡ false = sym (ap is_end same) ∙ no_end in
    absurd (cc))

pub whole_there : {bounds : ModuleBounds} {m : Marks} (bytes : List ℕ) (at : ℕ) (gs : List Goal) → Waits bounds m bytes at gs → length bytes ≤ at → is_end gs ≡ true → IsWhole bytes
whole_there bytes at gs w h end =
    let e = end_is gs end in
    (e.0, subst (Leads 0 start bytes) e.1 (subst (λ b. Leads 0 start b gs) (take_all at bytes h) w.stands.leads))

-- a first fault is where the bytes fail
pub fault_first : (bytes : List ℕ) (k : ℕ) → StopsAt bytes k → FaultAt bytes k
fault_first bytes k f = record { within = f.within; before = f.before; stops = inl f.stops }

-- nothing follows where nothing is wanted
none_ends : (at : ℕ) (a : List ℕ) → 0 < length a → BegunFrom at [] a → ⊥
none_ends at [] h b = omega (arith, h)
none_ends at (x ∷ a) h b = elim b [ ]

pub fault_none : {bounds : ModuleBounds} {m : Marks} (bytes : List ℕ) (at : ℕ) (gs : List Goal) → Stands bounds m bytes at gs → gs ≡ [] → at < length bytes → StopsAt bytes (at + 1)
fault_none bytes at gs s e h =
    let l : Leads 0 start (take at bytes) [] = subst (Leads 0 start (take at bytes)) e s.leads in
    let near : Begun (take at bytes ++ []) = leads_on 0 start (take at bytes) [] l [] ends in
    let place = place_at bytes at s.within in
    let more : take (at + 1) bytes ≡ take at bytes ++ take 1 (drop at bytes) = take-add at 1 bytes in
    record {
      within = omega (arith, h);
      before = λ j lt. begun_front 0 start (take at bytes ++ []) near (take j bytes) (take (at - j) (drop j bytes))
          (append-nil (take at bytes) ∙ ap (λ n. take n bytes) (let k : at ≡ j + (at - j) = omega (arith, lt) in k) ∙ take-add j (at - j) bytes);
      stops = λ b. none_ends (0 + length (take at bytes)) (take 1 (drop at bytes)) (omega (arith, length-take-le 1 (drop at bytes) (omega (arith, length-drop at bytes, h))))
          (leads_only 0 start (take at bytes) [] l (take 1 (drop at bytes)) (take (at + 1) bytes) b more);
    }

pub waits_none : {bounds : ModuleBounds} {m : Marks} (bytes : List ℕ) (at : ℕ) (gs : List Goal) → Stands bounds m bytes at gs → gs ≡ [] → at ≡ length bytes → Waits bounds m bytes at gs
unfolding Inside
waits_none bytes at gs s e h = record {
  stands = s;
  inside = subst (Inside (length bytes)) (sym e) tt;
  left = subst (λ z. IsPartOf z (drop at bytes)) (sym e) (none_left bytes at (omega (arith, h)));
}

-- at the first byte, whatever follows
pub first_stands : (bounds : ModuleBounds) (m : Marks) (bytes : List ℕ) (at : ℕ) (gs : List Goal) → m ≡ no_marks → at ≡ 0 → gs ≡ start → Stands bounds m bytes at gs
unfolding Inside
first_stands bounds m bytes at gs d e f = record {
  within = omega (arith, e);
  leads = subst (λ n. Leads 0 start (take n bytes) gs) (sym e) (subst (Leads 0 start []) (sym f) arrived);
  inside = subst (Inside at) (sym f) (tt, (tt, (tt, (tt, (tt, (tt, (tt, (tt, (tt, tt)))))))));
  marked = subst (λ n. MarksAlong bounds 0 start (take n bytes) gs m) (sym e) (subst (λ z. MarksAlong bounds 0 start [] z m) (sym f)
      (subst (MarksAlong bounds 0 start [] start) (sym d) (marks_begin bounds 0 start)));
}

-- more bytes change nothing of what stands
pub stands_on : {bounds : ModuleBounds} {m : Marks} (bytes piece : List ℕ) (at : ℕ) (gs : List Goal) → Stands bounds m bytes at gs → Stands bounds m (bytes ++ piece) at gs
stands_on {bounds = bounds} {m = m} bytes piece at gs s = record {
  within = (let h = s.within in omega (arith, h, length-append bytes piece));
  leads = subst (λ z. Leads 0 start z gs) (sym (take-append-le at bytes piece s.within)) s.leads;
  inside = s.inside;
  marked = subst (λ z. MarksAlong bounds 0 start z gs m) (sym (take-append-le at bytes piece s.within)) s.marked;
}

-- what is marked along a whole file
pub marked_there : {bounds : ModuleBounds} {m : Marks} (bytes : List ℕ) (at : ℕ) (gs : List Goal) → Waits bounds m bytes at gs → length bytes ≤ at → is_end gs ≡ true
    → (last : ℕ) × MarksAlong bounds 0 start bytes (sections last 0 ∷ []) m
marked_there {bounds = bounds} {m = m} bytes at gs w h end =
    let e = end_is gs end in
    (e.0, subst (λ z. MarksAlong bounds 0 start bytes z m) e.1 (subst (λ b. MarksAlong bounds 0 start b gs m) (take_all at bytes h) w.stands.marked))
