-- The first line of a kind in programs, each of which has its lines in order.
use Rattle.std.proofs.Common.{◌≡◌, ◌∙◌, ◌<◌, ◌≤◌, ◌+◌, ℕ, suc, List, [], ◌∷◌, ◌++◌, length, map, get_or, drop, drop-cons, add-one, Option, Some, None, refl, sym, ap, slice_get}
use Rattle.std.specs.List.{flat_map}
use Rattle.std.specs.Option.{option_map}
use Rattle.std.proofs.lemmas.List.{drop_all}
use Rattle.script_model.specs.Script as T
use Rattle.script_reader.specs.declared.script.BindText.{BindText}
use Rattle.script_reader.specs.declared.script.ProgramText.{ProgramText}
use Rattle.script_reader.specs.declared.script.StrandText.{StrandText}
use Rattle.script_reader.specs.Views.{bind_of, program_of, strand_of}

-- What a program has of a kind, what of it is plain data, and the line of that.
pub record Kind (V A : Type 0) : Type 0 where
  pub items : ProgramText → List V
  pub view : V → A
  pub texts : T.ProgramText → List A
  pub line : A → ℕ
  pub same : (p : ProgramText) → texts (program_of p) ≡ map view (items p)

-- `device` lines
abbrev pub devices : Kind BindText T.BindText
devices = record { items = λ p. p.binds.items; view = bind_of; texts = λ t. t.binds; line = λ b. b.line; same = λ p. refl }

-- `strand` lines
abbrev pub strands : Kind StrandText T.StrandText
strands = record { items = λ p. p.strands.items; view = strand_of; texts = λ t. t.strands; line = λ s. s.line; same = λ p. refl }

module _ {V A : Type 0} (k : Kind V A) where
  -- the line of the first of these programs
  abbrev pub first_line : List ProgramText → Option ℕ
  first_line ps = option_map k.line (slice_get (flat_map k.texts (map program_of ps)) 0)

  -- .. of these lines, in front of others
  abbrev first_of : List V → List A → Option ℕ
  first_of vs rest = option_map k.line (slice_get (map k.view vs ++ rest) 0)

  first_some : (vs : List V) (rest : List A) (v : V) → slice_get vs 0 ≡ Some v → first_of vs rest ≡ Some (k.line (k.view v))
  first_some [] rest v e = cc
  first_some (x ∷ vs) rest v e = ap (option_map (λ (y : V). k.line (k.view y))) e

  first_none : (vs : List V) (rest : List A) → slice_get vs 0 ≡ None → first_of vs rest ≡ first_of [] rest
  first_none [] rest e = refl
  first_none (x ∷ vs) rest e = cc

  -- the programs of a script, one after another
  module _ (xs ps : List ProgramText) (same : xs ≡ ps) (i : ℕ) where
    module _ (x : ProgramText) (within : i < length xs) (is : x ≡ get_or xs i x) (vs : List V) (own : vs ≡ k.items x) (before : first_line (drop i ps) ≡ first_line ps) where
      here : drop i ps ≡ x ∷ drop (i + 1) ps
      here =
          ap (drop i) (sym same) ∙ drop-cons xs i x within ∙ ap (λ (y : ProgramText). y ∷ drop (suc i) xs) (sym is)
          ∙ (λ j. x ∷ drop (sym (add-one i) j) (same j))

      abbrev left : List A
      left = flat_map k.texts (map program_of (drop (i + 1) ps))

      begins : first_line (drop i ps) ≡ first_of vs left
      begins =
          ap first_line here ∙ ap (λ (l : List A). option_map k.line (slice_get (l ++ left) 0)) (k.same x)
          ∙ ap (λ (l : List V). first_of l left) (sym own)

      -- this one has none
      pub line_later : slice_get vs 0 ≡ None → first_line (drop (i + 1) ps) ≡ first_line ps
      line_later none = sym (begins ∙ first_none vs left none) ∙ before

      -- this one has the first
      pub line_here : (v : V) → slice_get vs 0 ≡ Some v → Some (k.line (k.view v)) ≡ first_line ps
      line_here v some = sym (begins ∙ first_some vs left v some) ∙ before

    -- none has one
    pub no_line : length xs ≤ i → first_line (drop i ps) ≡ first_line ps → None ≡ first_line ps
    no_line past before = sym (ap first_line (ap (drop i) (sym same) ∙ drop_all i xs past)) ∙ before
