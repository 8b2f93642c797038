-- The strands of a program, while its lines are read: what changes the last one.
use Rattle.std.proofs.Common.{arith, ◌≡◌, ℕ, zero, suc, List, [], ◌∷◌, ◌++◌, length, map, get_or, set, ap, refl, append_assoc, append-nil}
use Rattle.wa_model.specs.Outside.{AnswerLine}
use Rattle.script_model.specs.Script.{EntryText, StrandText}
use Rattle.script_reader.specs.Drafts.{answer_behind, entry_behind, on_last, to_first}

-- a strand, with more entries and answers
abbrev pub grown : List EntryText → List AnswerLine → StrandText → StrandText
grown es rs s = record s { entries = s.entries ++ es; answers = s.answers ++ rs }

-- ---- another last item

pub length_kept : {A : Type 0} (f : A → A) (xs : List A) → length (on_last f xs) ≡ length xs
length_kept f [] = refl
length_kept f (x ∷ []) = refl
length_kept f (x ∷ y ∷ xs) = ap suc (length_kept f (y ∷ xs))

pub twice : {A : Type 0} (f g h : A → A) → ((x : A) → f (g x) ≡ h x) → (xs : List A) → on_last f (on_last g xs) ≡ on_last h xs
twice f g h same [] = refl
twice f g h same (x ∷ []) = ap (λ y. y ∷ []) (same x)
twice f g h same (x ∷ y ∷ []) = ap (λ z. x ∷ z ∷ []) (same y)
twice f g h same (x ∷ y ∷ z ∷ xs) = ap (λ l. x ∷ l) (twice f g h same (y ∷ z ∷ xs))

pub same_last : {A : Type 0} (f : A → A) → ((x : A) → f x ≡ x) → (xs : List A) → on_last f xs ≡ xs
same_last f same [] = refl
same_last f same (x ∷ []) = ap (λ y. y ∷ []) (same x)
same_last f same (x ∷ y ∷ xs) = ap (λ l. x ∷ l) (same_last f same (y ∷ xs))

pub at_end : {A : Type 0} (f : A → A) (xs : List A) (x : A) → on_last f (xs ++ x ∷ []) ≡ xs ++ f x ∷ []
at_end f [] x = refl
at_end f (y ∷ []) x = refl
at_end f (y ∷ z ∷ xs) x = ap (λ l. y ∷ l) (at_end f (z ∷ xs) x)

-- the last of what the program has is another one
pub last_set : {V A : Type 0} (view : V → A) (f : A → A) (xs : List V) (k : ℕ) (w d : V) → suc k ≡ length xs → view w ≡ f (view (get_or xs k d))
    → map view (set xs k w) ≡ on_last f (map view xs)
last_set view f [] k w d last is = absurd (omega (arith, last))
last_set view f (x ∷ []) zero w d last is = ap (λ a. a ∷ []) is
last_set view f (x ∷ []) (suc k) w d last is = absurd (omega (arith, last))
last_set view f (x ∷ y ∷ xs) zero w d last is = absurd (omega (arith, last))
last_set view f (x ∷ y ∷ xs) (suc k) w d last is = ap (λ l. view x ∷ l) (last_set view f (y ∷ xs) k w d (omega (arith, last)) is)

-- ---- lines of the first strand

pub first_kept : {A : Type 0} (f : StrandText → StrandText) (ss : List StrandText) (first more : List A) → to_first (on_last f ss) first more ≡ to_first ss first more
first_kept f [] first more = refl
first_kept f (s ∷ []) first more = refl
first_kept f (s ∷ t ∷ ss) first more = refl

pub first_none : {A : Type 0} (ss : List StrandText) (first : List A) → to_first ss first [] ≡ first
first_none [] first = append-nil first
first_none (s ∷ ss) first = refl

pub first_more : {A : Type 0} (ss : List StrandText) (first : List A) (x : A) (more : List A) → to_first ss (to_first ss first (x ∷ [])) more ≡ to_first ss first (x ∷ more)
first_more [] first x more = append_assoc first (x ∷ []) more
first_more (s ∷ ss) first x more = refl

pub first_behind : {A : Type 0} (ss : List StrandText) (s : StrandText) (first more : List A) → to_first (ss ++ s ∷ []) first more ≡ first
first_behind [] s first more = refl
first_behind (t ∷ ss) s first more = refl

-- ---- a strand grows

pub grown_none : (s : StrandText) → grown [] [] s ≡ s
grown_none s = λ i. record { line = s.line; area = s.area; entries = append-nil s.entries i; answers = append-nil s.answers i }

pub grown_entry : (e : EntryText) (es : List EntryText) (rs : List AnswerLine) (s : StrandText) → grown es rs (entry_behind e s) ≡ grown (e ∷ es) rs s
grown_entry e es rs s = ap (λ (l : List EntryText). record { line = s.line; area = s.area; entries = l; answers = s.answers ++ rs }) (append_assoc s.entries (e ∷ []) es)

pub grown_answer : (a : AnswerLine) (es : List EntryText) (rs : List AnswerLine) (s : StrandText) → grown es rs (answer_behind a s) ≡ grown es (a ∷ rs) s
grown_answer a es rs s = ap (λ (l : List AnswerLine). record { line = s.line; area = s.area; entries = s.entries ++ es; answers = l }) (append_assoc s.answers (a ∷ []) rs)
