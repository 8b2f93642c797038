-- All words of a command, as `clap`'s walk goes over them and as they tell something.
use Rattle.std.proofs.Common.{◌≡◌, ◌⊎◌, ◌∙◌, ℕ, List, [], ◌∷◌, ◌++◌, Option, Some, None, Bool, true, false, not, ◌&&◌, inl, inr, refl, sym, ap, subst, codes, cond, if◌then◌else◌, is_some, true≢false, find, fold, unwrap_or, IsUtf8}
use Rattle.std.specs.List.{list_all}
use Rattle.std.specs.Option.{option_map_or}
use Rattle.clap.specs.Walk.{Held, Row, Rule, Text, Walk, Waiting, arg_by_index, arg_by_long, idle, is_pending, takes_several, takes_values, value, walked}
use Rattle.clap.specs.Kinds.{Kinds, or_else}
use Rattle.clap.specs.Faults.{long_fault, option_fault, positional_fault, react_fault, settle_fault, step_fault, stray_fault, turn_fault, walk_fault, word_fault}
use Rattle.clap.specs.declared.error.kind.ErrorKind.TheVariants as kind
use Rattle.script_model.specs.Command.{Said}
use Rattle.command_words.specs.Grammar.{Kind, transform_words, host_words, run_words, gen_words, save_words, continue_words, rules, shape}
use Rattle.command_words.proofs.Views.{View, is_end, is_list, is_save, is_imports, is_indirect, is_asserts, is_list_with, is_save_with, is_named, is_long, is_short, view}
use Rattle.command_words.proofs.Telling.{told, told_none, tell_at}
use Rattle.command_words.proofs.Steps.{After, Doomed, Settles, Stands, after_as, at_walk, first_passes, held, name_is, name_met, shows, some_kind, turn_fails, unknown_fails, walk_of}
use Rattle.command_words.proofs.Stepping.{step}

pub second_passes : (a b : Kinds) → or_else a b ≡ [] → b ≡ []
second_passes [] b e = e
second_passes (k ∷ ks) b e = absurd (some_kind k ks e)

-- ---- where what is pending fails, each word leaves it so

found_passes : (p q : Rule → Bool) (xs : List Rule) (x : Rule) → list_all q xs ≡ true → find p xs ≡ Some x → q x ≡ true
found_passes p q [] x all e = absurd (true≢false (sym (ap is_some e)))
found_passes p q (y ∷ ys) x all e = go (p y) (q y) refl all e (found_passes p q ys x)
  where
    go : (b c : Bool) → q y ≡ c → (c && list_all q ys) ≡ true → cond b (Some y) (find p ys) ≡ Some x → (list_all q ys ≡ true → find p ys ≡ Some x → q x ≡ true) → q x ≡ true
    go b false e h f more = absurd (true≢false (sym h))
    go true true e h f more = ap q (sym (ap (λ (o : Option Rule). unwrap_or o y) f)) ∙ e
    go false true e h f more = more h f

single : (k : Kind) → list_all (λ (a : Rule). not (takes_several a)) (rules k) ≡ true
single transform_words = refl
single host_words = refl
single run_words = refl
single gen_words = refl
single save_words = refl
single continue_words = refl

not_true : (b : Bool) → not b ≡ true → b ≡ false
not_true true e = sym e
not_true false e = refl

place_fails : (k : Kind) (rows : List Row) (pending : Option (Text × List Text)) (place : ℕ) → (Settles k rows pending → ⊥) → step_fault (shape k) place (held rows pending) value ≡ [] → ⊥
place_fails k rows pending place fails e = go (arg_by_index (rules k) place) refl e
  where
    waits_on : (b c : Bool) → c ≡ false → (if b && c then [] else settle_fault (rules k) false (held rows pending)) ≡ [] → ⊥
    waits_on true true c e = true≢false c
    waits_on true false c e = fails e
    waits_on false c d e = fails e

    go : (o : Option Rule) → arg_by_index (rules k) place ≡ o → option_map_or (λ (a : Rule). positional_fault (rules k) false a (held rows pending)) o (stray_fault (shape k)) ≡ [] → ⊥
    go None at e = some_kind kind.UnknownArgument [] e
    go (Some a) at e =
        waits_on (is_pending a pending) (takes_several a) (not_true (takes_several a) (found_passes _ (λ (r : Rule). not (takes_several r)) (rules k) a (single k) at)) e

long_doomed : (k : Kind) (o : Option Rule) (v : Option Text) (h : Held) → (settle_fault (rules k) false h ≡ [] → ⊥) → long_fault (rules k) false o v h ≡ [] → ⊥
long_doomed k None v h fails e = some_kind kind.UnknownArgument [] e
long_doomed k (Some a) v h fails e = go (takes_values a) v e
  where
    go : (b : Bool) (v : Option Text) → (if b then option_fault (rules k) false a v h else (if is_some v then kind.TooManyValues ∷ [] else react_fault (rules k) false a [] h)) ≡ [] → ⊥
    go true (Some x) e = fails (first_passes (settle_fault (rules k) false h) _ e)
    go true None e = fails e
    go false (Some x) e = some_kind kind.TooManyValues [] e
    go false None e = fails (first_passes (settle_fault (rules k) false h) _ e)

-- a long word
long_turn : (k : Kind) (rows : List Row) (pending : Option (Text × List Text)) (place : ℕ) (word : Text) (p : Text × Option Text) → (Settles k rows pending → ⊥)
    → word_fault (shape k) [] false idle word (held rows pending) ≡ long_fault (rules k) false (arg_by_long (rules k) p.0) p.1 (held rows pending)
    → turn_fault (shape k) [] (at_walk rows pending idle place false) word ≡ [] → ⊥
long_turn k rows pending place word p fails is e =
    turn_fails k rows pending idle place false word _ is (long_doomed k (arg_by_long (rules k) p.0) p.1 (held rows pending) fails) e

abbrev IdleDoomed : Kind → List Row → Option (Text × List Text) → ℕ → Text → Type 0
IdleDoomed k rows pending place word = turn_fault (shape k) [] (at_walk rows pending idle place false) word ≡ [] → Doomed k (walked (rules k) [] (at_walk rows pending idle place false) word)

end_doomed : (k : Kind) (rows : List Row) (pending : Option (Text × List Text)) (place : ℕ) → (Settles k rows pending → ⊥) → IdleDoomed k rows pending place (codes "--")
unfolding walked
end_doomed k rows pending place fails e =
    record { rows = rows; pending = pending; waiting = idle; place = place; trail = true; is = refl; fails = fails; closed = inl refl }

idle_doomed : (k : Kind) (rows : List Row) (pending : Option (Text × List Text)) (place : ℕ) (word : Text) → View word → (Settles k rows pending → ⊥) → IdleDoomed k rows pending place word
idle_doomed k rows pending place word (is_end e) fails = subst (IdleDoomed k rows pending place) (sym e) (end_doomed k rows pending place fails)
idle_doomed k rows pending place word (is_list e) fails =
    subst (IdleDoomed k rows pending place) (sym e) (λ f. absurd (long_turn k rows pending place (codes "--imports") (codes "imports", None) fails refl f))
idle_doomed k rows pending place word (is_save e) fails =
    subst (IdleDoomed k rows pending place) (sym e) (λ f. absurd (long_turn k rows pending place (codes "--save") (codes "save", None) fails refl f))
idle_doomed k rows pending place word (is_imports e) fails =
    subst (IdleDoomed k rows pending place) (sym e) (λ f. absurd (long_turn k rows pending place (codes "--ignore-imports") (codes "ignore-imports", None) fails refl f))
idle_doomed k rows pending place word (is_indirect e) fails =
    subst (IdleDoomed k rows pending place) (sym e) (λ f. absurd (long_turn k rows pending place (codes "--ignore-indirect") (codes "ignore-indirect", None) fails refl f))
idle_doomed k rows pending place word (is_asserts e) fails =
    subst (IdleDoomed k rows pending place) (sym e) (λ f. absurd (long_turn k rows pending place (codes "--asserts") (codes "asserts", None) fails refl f))
idle_doomed k rows pending place word (is_list_with text e) fails =
    subst (IdleDoomed k rows pending place) (sym e) (λ f. absurd (long_turn k rows pending place (codes "--imports=" ++ text) (codes "imports", Some text) fails refl f))
idle_doomed k rows pending place word (is_save_with text e) fails =
    subst (IdleDoomed k rows pending place) (sym e) (λ f. absurd (long_turn k rows pending place (codes "--save=" ++ text) (codes "save", Some text) fails refl f))
idle_doomed k rows pending place word (is_named n) fails =
    let h = held rows pending in
    let seen = shows k rows pending idle place false word [] h value (name_is k h idle word n.no_end n.no_long n.no_short) (name_met k h idle place word n.no_end n.no_long n.no_short) in
    λ f. absurd (place_fails k rows pending place fails (sym seen.0 ∙ f))
idle_doomed k rows pending place word (is_long h p e strange) fails = λ f. absurd (unknown_fails k rows pending idle place word h (inl (p, e, strange)) f)
idle_doomed k rows pending place word (is_short h none y ys e x first) fails = λ f. absurd (unknown_fails k rows pending idle place word h (inr (none, y, ys, e, x, first)) f)

doomed_step : (k : Kind) (word : Text) → View word → (w : Walk) → Doomed k w → turn_fault (shape k) [] w word ≡ [] → Doomed k (walked (rules k) [] w word)
doomed_step k word v w d = subst (λ (x : Walk). turn_fault (shape k) [] x word ≡ [] → Doomed k (walked (rules k) [] x word)) (sym d.is) (go d.waiting d.trail d.closed)
  where
    go : (waiting : Waiting) (trail : Bool) → (waiting ≡ idle) ⊎ (trail ≡ true) → turn_fault (shape k) [] (at_walk d.rows d.pending waiting d.place trail) word ≡ []
        → Doomed k (walked (rules k) [] (at_walk d.rows d.pending waiting d.place trail) word)
    go waiting true c e = absurd (place_fails k d.rows d.pending d.place d.fails e)
    go waiting false (inl at) e =
        subst (λ (x : Waiting). turn_fault (shape k) [] (at_walk d.rows d.pending x d.place false) word ≡ [] → Doomed k (walked (rules k) [] (at_walk d.rows d.pending x d.place false) word)) (sym at)
        (idle_doomed k d.rows d.pending d.place word v d.fails) e
    go waiting false (inr at) e = absurd (true≢false (sym at))

-- ---- all words

abbrev pub AllText : List Text → Type 0
AllText [] = Unit {0}
AllText (word ∷ words) = IsUtf8 word × AllText words

doomed_end : (k : Kind) (words : List Text) → AllText words → (w : Walk) → Doomed k w → walk_fault (shape k) [] w words ≡ [] → Doomed k (fold (walked (rules k) []) w words)
unfolding walk_fault
doomed_end k [] all w d e = d
doomed_end k (word ∷ words) all w d e =
    let rest = walk_fault (shape k) [] (walked (rules k) [] w word) words in
    doomed_end k words all.1 (walked (rules k) [] w word) (doomed_step k word (view word all.0) w d (first_passes (turn_fault (shape k) [] w word) rest e))
    (second_passes (turn_fault (shape k) [] w word) rest e)

-- behind all words the walk is as what they told says
pub walk_ends : (k : Kind) (words : List Text) → AllText words → (s : Said) (rows : List Row) (pending : Option (Text × List Text)) → Stands s.place k s rows pending
    → After k (told k (Some s) words) (walk_fault (shape k) [] (walk_of s rows pending) words) (fold (walked (rules k) []) (walk_of s rows pending) words)
unfolding walk_fault
walk_ends k [] all s rows pending h = (refl, rows, pending, refl, h)
walk_ends k (word ∷ words) all s rows pending h =
    go (tell_at k s.place word s) (step k s rows pending word (view word all.0) h) (λ t rows' pending' h'. walk_ends k words all.1 t rows' pending' h')
  where
    go : (o : Option Said) → After k o (turn_fault (shape k) [] (walk_of s rows pending) word) (walked (rules k) [] (walk_of s rows pending) word)
        → ((t : Said) (rows' : List Row) (pending' : Option (Text × List Text)) → Stands t.place k t rows' pending'
        → After k (told k (Some t) words) (walk_fault (shape k) [] (walk_of t rows' pending') words) (fold (walked (rules k) []) (walk_of t rows' pending') words))
        → After k (told k o words)
        (or_else (turn_fault (shape k) [] (walk_of s rows pending) word) (walk_fault (shape k) [] (walked (rules k) [] (walk_of s rows pending) word) words))
        (fold (walked (rules k) []) (walked (rules k) [] (walk_of s rows pending) word) words)
    go None fails more =
        let turn = turn_fault (shape k) [] (walk_of s rows pending) word in
        let rest = walk_fault (shape k) [] (walked (rules k) [] (walk_of s rows pending) word) words in
        subst (λ o. After k o (or_else turn rest) (fold (walked (rules k) []) (walked (rules k) [] (walk_of s rows pending) word) words)) (sym (told_none k words))
        (λ e. doomed_end k words all.1 (walked (rules k) [] (walk_of s rows pending) word) (fails (first_passes turn rest e)) (second_passes turn rest e))
    go (Some t) h more =
        after_as k (told k (Some t) words) _ (walk_fault (shape k) [] (walk_of t h.1 h.2) words) _ (fold (walked (rules k) []) (walk_of t h.1 h.2) words)
        (λ i. or_else (h.0 i) (walk_fault (shape k) [] (h.3 i) words)) (λ i. fold (walked (rules k) []) (h.3 i) words) (more t h.1 h.2 h.4)
