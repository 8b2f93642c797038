-- A list of imports, read piece by piece.
use Rattle.std.proofs.Common.{arith, ◌≡◌, ℕ, ◌+◌, ◌<◌, List, [], ◌∷◌, ◌++◌, map, length, take, drop, get_or, Result, Ok, Err, sym, ap, ◌∙◌, subst, eqb, IsErrAnd}
use Rattle.std.specs.List.{slice_split}
use Rattle.std.proofs.lemmas.List.{take_more, take_all, take-append-drop, append_assoc, map-append}
use Rattle.wa_types.specs.Pausing.{Entry as PlainEntry, ListError, entry_of as spelled_entry, entries_of, list_of}
use Rattle.call_graph.specs.declared.lists.Entry.{Entry}
use Rattle.call_graph.specs.declared.lists.ListFault.{ListFault}
use Rattle.call_graph.specs.declared.lists.ListFault.TheVariants.{Memory, EmptyEntry, NoDot, StarInside}
use Rattle.call_graph.specs.Entries.{entry_of}
use Rattle.call_graph.specs.Lists.{Blames, Parses}
use Rattle.call_graph.proofs.ListLemmas.{entries_push, entries_fail, pieces_split}

-- the pieces of a text
abbrev pub parts : List ℕ → List (List ℕ)
parts text = slice_split (λ b. eqb b 44) text

module _ (all : List (List ℕ)) (n : ℕ) (piece : List ℕ) (es : List Entry) (lt : n < length all) (at : piece ≡ get_or all n piece) (before : entries_of (take n all) ≡ Ok (map entry_of es)) where
  taken : take (n + 1) all ≡ take n all ++ piece ∷ []
  taken = take_more all n piece lt ∙ ap (λ (p : List ℕ). take n all ++ p ∷ []) (sym at)

  whole : take n all ++ piece ∷ drop (n + 1) all ≡ all
  whole = sym (append_assoc (take n all) (piece ∷ []) (drop (n + 1) all)) ∙ ap (λ l. l ++ drop (n + 1) all) (sym taken) ∙ take-append-drop (n + 1) all

  -- one entry more
  pub entry_read : (e : Entry) (new : List Entry) → spelled_entry piece ≡ Ok (entry_of e) → new ≡ es ++ e ∷ [] → entries_of (take (n + 1) all) ≡ Ok (map entry_of new)
  entry_read e new is more =
      ap entries_of taken ∙ entries_push (take n all) piece (map entry_of es) (entry_of e) before is
      ∙ ap (λ (l : List PlainEntry). Ok l) (sym (ap (map entry_of) more ∙ map-append entry_of es (e ∷ [])))

  fails : (f : ListError) → spelled_entry piece ≡ Err f → entries_of all ≡ Err f
  fails f is = ap entries_of (sym whole) ∙ entries_fail (take n all) piece (drop (n + 1) all) (map entry_of es) f before is

  -- the first piece that is no entry
  pub entry_fails : (fault : ListFault) → Blames fault (spelled_entry piece) → Blames fault (entries_of all)
  entry_fails Memory h = h
  entry_fails EmptyEntry h = fails _ h
  entry_fails NoDot h = fails _ h
  entry_fails StarInside h = fails _ h

-- all pieces are read
pub entries_read : (text : List ℕ) (n : ℕ) (es : List Entry) → n ≡ length (parts text) → entries_of (take n (parts text)) ≡ Ok (map entry_of es) → list_of text ≡ Ok (map entry_of es)
entries_read text n es e h =
    ap entries_of (pieces_split text ∙ sym (take_all n (parts text) (omega (arith, e)))) ∙ h

pub blamed : (text : List ℕ) (fault : ListFault) → Blames fault (entries_of (parts text)) → Blames fault (list_of text)
blamed text Memory h = h
blamed text EmptyEntry h = ap entries_of (pieces_split text) ∙ h
blamed text NoDot h = ap entries_of (pieces_split text) ∙ h
blamed text StarInside h = ap entries_of (pieces_split text) ∙ h

-- the fault is handed on
pub parses_err : (r : Result (List PlainEntry) ListFault) (fault : ListFault) (rs : Result (List PlainEntry) ListError) → IsErrAnd r (λ f. f ≡ fault) → Blames fault rs → Parses r rs
parses_err (Ok es) fault rs h b = absurd h
parses_err (Err f) fault rs h b = subst (λ g. Blames g rs) (sym h) b
