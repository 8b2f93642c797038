-- Values and pokes that words spell, read one behind another.
use Rattle.std.proofs.Common.{arith, ◌≡◌, ℕ, ◌+◌, ◌-◌, ◌<◌, ◌≤◌, suc, Option, Some, None, Result, Ok, Err, List, [], ◌∷◌, ◌++◌, length, drop, take, get_or, map, sym, ap, ◌∙◌, refl}
use Rattle.std.proofs.Math.Seq.{drop-cons}
use Rattle.std.proofs.lemmas.List.{take_all, map-append}
use Rattle.script_model.specs.ScriptLines.{onto, value_in, all_values, hex_in, u32_in, poke_of, all_pokes}
use Rattle.wa_model.specs.Outside.{Poke}
use Rattle.wa_model.specs.declared.answers.Poke.{Poke as PokeValue}
use Rattle.wa_model.specs.View.{poke_of as view_of}
use Rattle.script_reader.specs.declared.word_fault.LineFault.{LineFault}
use Rattle.script_reader.specs.declared.word_fault.LineFault.TheVariants.{Memory, Rule}
use Rattle.script_reader.specs.Reading.{Blames, or_breaks}
use Rattle.script_reader.proofs.Sequences.{appended, told_some, one_more, four_is, fails}
use Rattle.script_reader.specs.ReadingParts.{triples}

-- ---- values

pub values_at : (words : List (List ℕ)) (k : ℕ) (d : List ℕ) → k < length words → all_values (drop k words) ≡ onto (value_in (get_or words k d)) (all_values (drop (k + 1) words))
values_at words k d lt =
    let next : suc k ≡ k + 1 = omega arith in
    ap all_values (drop-cons words k d lt) ∙ ap (λ (j : ℕ). onto (value_in (get_or words k d)) (all_values (drop j words))) next

-- ---- pokes

abbrev poke : ℕ → List ℕ → Poke
poke at bytes = record { at = at; bytes = bytes }

poke_none : (at : Option ℕ) → poke_of at None ≡ None
poke_none None = refl
poke_none (Some x) = refl

module _ (at_word bytes_word : List ℕ) (xs : List Poke) (whole : Option (List Poke)) where
  reads_first : (rest : List (List ℕ)) → 3 ≤ length rest → at_word ≡ get_or rest 1 at_word → bytes_word ≡ get_or rest 2 bytes_word
      → all_pokes (triples rest) ≡ onto (poke_of (u32_in at_word) (hex_in bytes_word)) (all_pokes (triples (take (length rest - 3) (drop 3 rest))))
  reads_first [] l a b = absurd (omega arith)
  reads_first (x ∷ []) l a b = absurd (omega arith)
  reads_first (x ∷ y ∷ []) l a b = absurd (omega arith)
  reads_first (x ∷ y ∷ z ∷ more) l a b =
      ap (λ (w : List ℕ). onto (poke_of (u32_in w) (hex_in z)) (all_pokes (triples more))) (sym a)
      ∙ ap (λ (w : List ℕ). onto (poke_of (u32_in at_word) (hex_in w)) (all_pokes (triples more))) (sym b)
      ∙ ap (λ (t : List (List ℕ)). onto (poke_of (u32_in at_word) (hex_in bytes_word)) (all_pokes (triples t))) (sym (take_all (length (x ∷ y ∷ z ∷ more) - 3) more (omega arith)))

  pub poke_step : (rest : List (List ℕ)) → 3 ≤ length rest → at_word ≡ get_or rest 1 at_word → bytes_word ≡ get_or rest 2 bytes_word → appended xs (all_pokes (triples rest)) ≡ whole
      → (at : ℕ) (bytes : List ℕ) (new : List Poke) → or_breaks 4 (u32_in at_word) ≡ Ok at → or_breaks 4 (hex_in bytes_word) ≡ Ok bytes → new ≡ xs ++ poke at bytes ∷ []
      → appended new (all_pokes (triples (take (length rest - 3) (drop 3 rest)))) ≡ whole
  poke_step rest l a b h at bytes new ea eb n =
      one_more xs new (poke at bytes) (poke_of (u32_in at_word) (hex_in bytes_word)) (all_pokes (triples (take (length rest - 3) (drop 3 rest)))) whole
      (ap (λ (o : Option ℕ). poke_of o (hex_in bytes_word)) (told_some _ _ ea) ∙ ap (poke_of (Some at)) (told_some _ _ eb))
      n (ap (appended xs) (sym (reads_first rest l a b)) ∙ h)

  pub poke_fails : (rest : List (List ℕ)) → 3 ≤ length rest → at_word ≡ get_or rest 1 at_word → bytes_word ≡ get_or rest 2 bytes_word → appended xs (all_pokes (triples rest)) ≡ whole
      → (fault : LineFault) → Blames fault (or_breaks 4 (hex_in bytes_word)) → Blames fault (or_breaks 4 whole)
  poke_fails rest l a b h fault blames =
      fails fault xs (poke_of (u32_in at_word) (hex_in bytes_word)) (all_pokes (triples (take (length rest - 3) (drop 3 rest)))) whole
      (by_bytes fault (hex_in bytes_word) blames)
      (ap (appended xs) (sym (reads_first rest l a b)) ∙ h)
    where
      by_bytes : (f : LineFault) (o : Option (List ℕ)) → Blames f (or_breaks 4 o) → Blames f (or_breaks 4 (poke_of (u32_in at_word) o))
      by_bytes Memory o g = tt
      by_bytes (Rule rule) None g = ap (or_breaks 4) (poke_none (u32_in at_word)) ∙ ap (λ (r : ℕ). Err r) (four_is rule g)
      by_bytes (Rule rule) (Some bs) g = let d : ◌≡◌ {A = Result (List ℕ) ℕ} (Ok bs) (Err rule) = g in cc

-- the pokes of the program, one more
pub pokes_pushed : (old new : List PokeValue) (p : PokeValue) → new ≡ old ++ p ∷ [] → map view_of new ≡ map view_of old ++ view_of p ∷ []
pokes_pushed old new p e = ap (map view_of) e ∙ map-append view_of old (p ∷ [])
