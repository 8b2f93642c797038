-- The `transform` that words ask for is that which they spell, so that clauses on it needn't name the other commands.
use Rattle.std.proofs.Common.{◌≡◌, ◌⊎◌, ◌∙◌, ℕ, List, [], ◌∷◌, Option, Some, None, option_map, Bool, true, false, if◌then◌else◌, inl, inr, refl, sym, ap, subst, arith, codes, bytes_eq}
use Rattle.std.proofs.lemmas.Slice.Eq.{bytes_eq-Decides}
use Rattle.script_model.specs.Command.{Command, Manner, OnTransform, Said, command, said, nothing_said, transform}
use Rattle.script_model.specs.ScriptLines.{number_within}
use Rattle.script_model.specs.Spelled.{Spelled, rewrites, hosts, runs, generates, saves, continues, files_alone, two_files, one_file, number_and_file, script_events_snap, script_and_snap, is_plain, spelled, rewriting}
use Rattle.asyncify_app.proofs.OneEnd.{no_transform}

-- files alone spell no `transform`, where what is made of them is none
files_rewrite_none : (spell : (input output third : Option (List ℕ)) → Option Spelled) (s : Option Said) → ((i o t : Option (List ℕ)) → rewriting (spell i o t) ≡ None)
    → rewriting (files_alone spell s) ≡ None
files_rewrite_none spell None h = refl
files_rewrite_none spell (Some s) h = go (is_plain s.place s.imports s.save s.ignore_imports s.ignore_indirect s.asserts)
  where
    go : (b : Bool) → rewriting (if b then spell s.input s.output s.third else None) ≡ None
    go true = h s.input s.output s.third
    go false = refl

script_is_none : (spell : List ℕ → Spelled) → ((script : List ℕ) → rewriting (Some (spell script)) ≡ None) → (i o t : Option (List ℕ)) → rewriting (two_files (one_file spell) i o t) ≡ None
script_is_none spell h i o (Some third) = refl
script_is_none spell h (Some script) None None = h script
script_is_none spell h (Some script) (Some more) None = refl
script_is_none spell h None o None = refl

number_is_none : (n : Option ℕ) (spell : ℕ → Spelled) → ((x : ℕ) → rewriting (Some (spell x)) ≡ None) → rewriting (option_map spell n) ≡ None
number_is_none None spell h = refl
number_is_none (Some x) spell h = h x

gen_is_none : (i o t : Option (List ℕ)) → rewriting (two_files number_and_file i o t) ≡ None
gen_is_none i o (Some third) = refl
gen_is_none None o None = refl
gen_is_none (Some number) None None = refl
gen_is_none (Some number) (Some output) None = number_is_none (number_within 1 4000 number) (λ n. generates n output) (λ n. refl)

save_is_none : (i o t : Option (List ℕ)) → rewriting (script_events_snap i o t) ≡ None
save_is_none None o t = refl
save_is_none (Some script) None t = refl
save_is_none (Some script) (Some events) None = refl
save_is_none (Some script) (Some events) (Some snap) = number_is_none (number_within 1 1000000000 events) (λ n. saves script n snap) (λ n. refl)

continue_is_none : (i o t : Option (List ℕ)) → rewriting (two_files script_and_snap i o t) ≡ None
continue_is_none i o (Some third) = refl
continue_is_none None o None = refl
continue_is_none (Some script) None None = refl
continue_is_none (Some script) (Some snap) None = refl

-- a first word that is another than `transform`
other_word : (word text : List ℕ) (words : List (List ℕ)) → bytes_eq word text ≡ true → command (text ∷ words) ≡ None → None ≡ command (word ∷ words)
other_word word text words e h = sym (ap (λ w. command (w ∷ words)) ((bytes_eq-Decides word text).0 e) ∙ h)

rewritten_is : (o : Option Command) → rewriting (option_map rewrites o) ≡ o
rewritten_is None = refl
rewritten_is (Some c) = refl

pub rewriting_is_command : (words : List (List ℕ)) → rewriting (spelled words) ≡ command words
rewriting_is_command [] = refl
rewriting_is_command (word ∷ words) = host (bytes_eq word (codes "host")) refl
  where
    s : Option Said
    s = said (Some nothing_said) words

    plain : Option Spelled
    plain = option_map rewrites (command (word ∷ words))

    last : Bool → Option Spelled
    last b = if b then files_alone (two_files script_and_snap) s else plain

    fourth : Bool → Option Spelled
    fourth b = if b then files_alone script_events_snap s else last (bytes_eq word (codes "continue"))

    third : Bool → Option Spelled
    third b = if b then files_alone (two_files number_and_file) s else fourth (bytes_eq word (codes "save"))

    second : Bool → Option Spelled
    second b = if b then files_alone (two_files (one_file runs)) s else third (bytes_eq word (codes "gen"))

    on : (b : Bool) → bytes_eq word (codes "continue") ≡ b → rewriting (last b) ≡ command (word ∷ words)
    on true e = files_rewrite_none (two_files script_and_snap) s continue_is_none ∙ other_word word (codes "continue") words e refl
    on false e = rewritten_is (command (word ∷ words))

    save : (b : Bool) → bytes_eq word (codes "save") ≡ b → rewriting (fourth b) ≡ command (word ∷ words)
    save true e = files_rewrite_none script_events_snap s save_is_none ∙ other_word word (codes "save") words e refl
    save false e = on (bytes_eq word (codes "continue")) refl

    gen : (b : Bool) → bytes_eq word (codes "gen") ≡ b → rewriting (third b) ≡ command (word ∷ words)
    gen true e = files_rewrite_none (two_files number_and_file) s gen_is_none ∙ other_word word (codes "gen") words e refl
    gen false e = save (bytes_eq word (codes "save")) refl

    play : (b : Bool) → bytes_eq word (codes "run") ≡ b → rewriting (second b) ≡ command (word ∷ words)
    play true e = files_rewrite_none (two_files (one_file runs)) s (script_is_none runs (λ script. refl)) ∙ other_word word (codes "run") words e refl
    play false e = gen (bytes_eq word (codes "gen")) refl

    host : (b : Bool) → bytes_eq word (codes "host") ≡ b
        → rewriting (if b then files_alone (two_files (one_file hosts)) s else second (bytes_eq word (codes "run"))) ≡ command (word ∷ words)
    host true e = files_rewrite_none (two_files (one_file hosts)) s (script_is_none hosts (λ script. refl)) ∙ other_word word (codes "host") words e refl
    host false e = play (bytes_eq word (codes "run")) refl

-- what holds of the `transform` that words spell
pub on_command : (words : List (List ℕ)) (P : Manner → List ℕ → List ℕ → Type 0) → OnTransform (rewriting (spelled words)) P → OnTransform (command words) P
on_command words P h = subst (λ (o : Option Command). OnTransform o P) (rewriting_is_command words) h

-- words that spell none
pub no_command : (words : List (List ℕ)) (P : Manner → List ℕ → List ℕ → Type 0) → rewriting (spelled words) ≡ None → OnTransform (command words) P
no_command words P e = on_command words P (no_transform (spelled words) P e)

-- want of memory is another status than those of a module that was written
pub unwritten : (o : Option Command) (status : ℕ) (P : Manner → List ℕ → List ℕ → Type 0) → status ≡ 9
    → OnTransform o (λ how input output. (status ≡ 0) ⊎ (status ≡ 12) → P how input output)
unwritten None status P e = tt
unwritten (Some (transform how input output)) status P e = λ done. neither done
  where
    neither : (status ≡ 0) ⊎ (status ≡ 12) → P how input output
    neither (inl zero) = absurd (omega (arith, zero, e))
    neither (inr twelve) = absurd (omega (arith, twelve, e))
