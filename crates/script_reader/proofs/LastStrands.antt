-- A program that is being told, with a line more in its last strand.
use Rattle.std.proofs.Common.{arith, ◌≡◌, ◌∙◌, ◌-◌, ◌<◌, Result, Ok, Vec, List, [], ◌∷◌, ◌++◌, length, map, slice_index_or, sym, ap, refl}
use Rattle.std.proofs.lemmas.List.{length-map, map-append}
use Rattle.std.specs.Vec.{vec_len, with_item}
use Rattle.std.specs.declared.alloc.Global.{Global}
use Rattle.wa_model.specs.Outside.{AnswerLine}
use Rattle.wa_model.specs.View.{answer_line_of}
use Rattle.wa_model.specs.declared.answers.AnswerLine.{AnswerLine as AnswerValue}
use Rattle.script_model.specs.Script as T
use Rattle.script_reader.specs.declared.drafts.Draft.{Draft}
use Rattle.script_reader.specs.declared.script.EntryText.{EntryText}
use Rattle.script_reader.specs.declared.script.StrandText.{StrandText}
use Rattle.script_reader.specs.Drafts as D
use Rattle.script_reader.specs.Views.{draft_of, entry_of, strand_of}
use Rattle.script_reader.proofs.StrandLists.{last_set}

-- there is a further strand, so the first one keeps its lines
own_kept : {A : Type 0} (ss : List T.StrandText) (first more : List A) → 0 < length ss → first ≡ D.to_first ss first more
own_kept [] first more some = absurd (omega arith)
own_kept (s ∷ ss) first more some = refl

module _ (d : Draft) (strand : StrandText) (some : 0 < vec_len d.strands) (last : strand ≡ slice_index_or d.strands.items (vec_len d.strands - 1) strand) where
  strands_some : 0 < length (map strand_of d.strands.items)
  strands_some =
      let long = length-map d.strands.items strand_of in
      omega (arith, some, d.strands.ok.0, long)

  -- another last strand, which this one becomes
  strands_set : (f : T.StrandText → T.StrandText) (w : StrandText) → strand_of w ≡ f (strand_of strand)
      → D.on_last f (map strand_of d.strands.items) ≡ map strand_of (with_item d.strands (vec_len d.strands - 1) w).items
  strands_set f w is =
      sym (last_set strand_of f d.strands.items (vec_len d.strands - 1) w strand (omega (arith, some, d.strands.ok.0)) (is ∙ ap (λ (s : StrandText). f (strand_of s)) last))

  -- it has an entry more
  pub entry_put : (es : Vec EntryText Global) (e : EntryText) → es.items ≡ strand.entries.items ++ e ∷ []
      → ◌≡◌ {A = Result D.Draft T.ScriptFault} (Ok (D.with_entry (entry_of e) (draft_of d)))
      (Ok (draft_of (record d { strands = with_item d.strands (vec_len d.strands - 1) (record strand { entries = es }) })))
  entry_put es e is = λ i. Ok (record (draft_of d) {
    entries = sym (own_kept (map strand_of d.strands.items) (map entry_of d.entries.items) (entry_of e ∷ []) strands_some) i;
    strands = strands_set (D.entry_behind (entry_of e)) (record strand { entries = es }) more i;
  })
    where
      more : strand_of (record strand { entries = es }) ≡ D.entry_behind (entry_of e) (strand_of strand)
      more = ap (λ (l : List T.EntryText). record (strand_of strand) { entries = l }) (ap (map entry_of) is ∙ map-append entry_of strand.entries.items (e ∷ []))

  -- it has an answer more
  pub answer_put : (ls : Vec AnswerValue Global) (a : AnswerValue) → ls.items ≡ strand.answers.items ++ a ∷ []
      → ◌≡◌ {A = Result D.Draft T.ScriptFault} (Ok (D.with_answer (answer_line_of a) (draft_of d)))
      (Ok (draft_of (record d { strands = with_item d.strands (vec_len d.strands - 1) (record strand { answers = ls }) })))
  answer_put ls a is = λ i. Ok (record (draft_of d) {
    answers = sym (own_kept (map strand_of d.strands.items) (map answer_line_of d.answers.items) (answer_line_of a ∷ []) strands_some) i;
    strands = strands_set (D.answer_behind (answer_line_of a)) (record strand { answers = ls }) more i;
  })
    where
      more : strand_of (record strand { answers = ls }) ≡ D.answer_behind (answer_line_of a) (strand_of strand)
      more = ap (λ (l : List AnswerLine). record (strand_of strand) { answers = l }) (ap (map answer_line_of) is ∙ map-append answer_line_of strand.answers.items (a ∷ []))
