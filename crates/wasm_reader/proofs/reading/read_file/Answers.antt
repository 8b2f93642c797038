-- Each piece is one more of the file behind the front that has come.
use Rattle.std.proofs.Common.{◌≡◌, ◌<◌, ◌≤◌, ◌^◌, List, ℕ, All, ◌++◌, ap, arith, length, subst, sym, take, ◌∙◌}
use Rattle.std.specs.Prelude.{IsSome}
use Rattle.std.proofs.lemmas.Result.{IfErr-weaker, IfOk-weaker}
use Rattle.vault_port.specs.Files.{bytes_of}
use Rattle.vault_port.specs.Told.{WhereTold}
use Rattle.wa_types.specs.ModuleBounds.{ModuleBounds}
use Rattle.wa_types.specs.View.{module_of}
use Rattle.wasm_reader.specs.Answers.{IsAccepted}
use Rattle.wasm_reader.specs.Pieces.{Reading, IsFeedFault, fed}
use Rattle.wasm_reader.specs.Held.{IsToldFault}
use Rattle.wasm_reader.specs.FilePieces.{IsFaultOf, IsFront, IsPiece}
use Rattle.wasm_reader.proofs.Fronts.{are_bytes_more, came_more, front_more, holds_front, lent_back, told_fault}
use Rattle.wasm_reader.proofs.reading.read_file.Goals as goal

pub returns-then-count-eq0-clause-ok : goal.returns-then-count-eq0-clause-ok
returns-then-count-eq0-clause-ok g c =
    let i = c.fetching.invariant in
    let files = g.V.Vault.files c.args.vault.now in
    let name = c.args.name.now in
    let front = c.fetching.reader.bytes in
    let buffer = c.fetch_piece.new.buffer in
    let count = c.in_ok-count.count in
    let piece = subst (λ f. WhereTold f (λ all. IsPiece (bytes_of all name) c.fetching.done count buffer)) i.kept c.in_ok-count.ensures.fetched in
    let there = subst (λ f. WhereTold f (λ all. IsSome (all name))) i.kept c.in_ok-count.ensures.there in
    let holds = holds_front files name front buffer c.fetching.done count i.done c.if-count-eq0.true i.front piece there in
    IfOk-weaker c.finish.result _ _
    (λ r read. record { bytes = front; holds = holds; are_bytes = i.are_bytes; accepted = subst (λ b. IsAccepted b front (module_of r)) i.bounds read }) c.finish.ensures.ok

pub returns-then-count-eq0-clause-refused : goal.returns-then-count-eq0-clause-refused
returns-then-count-eq0-clause-refused g c =
    let i = c.fetching.invariant in
    let files = g.V.Vault.files c.args.vault.now in
    let name = c.args.name.now in
    let front = c.fetching.reader.bytes in
    let buffer = c.fetch_piece.new.buffer in
    let count = c.in_ok-count.count in
    let piece = subst (λ f. WhereTold f (λ all. IsPiece (bytes_of all name) c.fetching.done count buffer)) i.kept c.in_ok-count.ensures.fetched in
    let there = subst (λ f. WhereTold f (λ all. IsSome (all name))) i.kept c.in_ok-count.ensures.there in
    let holds = holds_front files name front buffer c.fetching.done count i.done c.if-count-eq0.true i.front piece there in
    IfErr-weaker c.finish.result _ _ (λ fault why. told_fault c.args.bounds files name front fault holds (subst (λ b. IsFaultOf b front fault) i.bounds why)) c.finish.ensures.refused

pub refuse-requires-clause-fault : goal.refuse-requires-clause-fault
refuse-requires-clause-fault g c =
    let i = c.fetching.invariant in
    let front = c.fetching.reader.bytes in
    let buffer = c.fetch_piece.new.buffer in
    let count = c.in_ok-count.count in
    let name = c.args.name.now in
    let long : length buffer ≡ c.fetching.buffer.len = c.fetch_piece.ensures.long ∙ ap (λ (p : List ℕ). length p) c.as_mut_slice.ensures.value ∙ sym c.fetching.buffer.ok.0 in
    let back = c.deref.ensures.value ∙ lent_back c.fetching.buffer.items buffer c.fetching.buffer.len long in
    let piece = subst (λ f. WhereTold f (λ all. IsPiece (bytes_of all name) c.fetching.done count buffer)) i.kept c.in_ok-count.ensures.fetched in
    let more = front_more (g.V.Vault.files c.args.vault.now) name front buffer c.fetching.done count i.done i.front piece in
    let met = c.in-Err.ensures.fault i.going in (
      front ++ take count buffer,
      came_more front buffer c.fetching.done count i.done c.in_ok-count.ensures.count.0,
      (
        subst (λ f. WhereTold f (λ all. IsSome (all name))) (sym c.fetch_piece.ensures.kept) c.in_ok-count.ensures.there,
        subst (λ f. IsFront f name (front ++ take count buffer)) (sym (c.fetch_piece.ensures.kept ∙ i.kept)) more,
      ),
      subst (λ m. IsFeedFault m (front ++ take count buffer) c.in-Err.fault) (ap (λ (b : ModuleBounds). b.file) i.bounds ∙ sym i.most)
          (subst (λ p. IsFeedFault c.fetching.reader.bounds.file (front ++ take count p) c.in-Err.fault) back met),
    )

pub returns-in-Err-clause-refused : goal.returns-in-Err-clause-refused
returns-in-Err-clause-refused g c =
    subst (λ f. IsToldFault c.args.bounds f c.args.name.now c.refuse.result) (c.fetch_piece.ensures.kept ∙ c.fetching.invariant.kept)
    (c.refuse.ensures.refused c.args.bounds (sym c.fetching.invariant.most))

pub fetching-preserved : goal.fetching-preserved
fetching-preserved g c =
    let i = c.fetching.invariant in
    let front = c.fetching.reader.bytes in
    let buffer = c.fetch_piece.new.buffer in
    let count = c.in_ok-count.count in
    let name = c.args.name.now in
    let long : length buffer ≡ c.fetching.buffer.len = c.fetch_piece.ensures.long ∙ ap (λ (p : List ℕ). length p) c.as_mut_slice.ensures.value ∙ sym c.fetching.buffer.ok.0 in
    let given = lent_back c.fetching.buffer.items buffer c.fetching.buffer.len long in
    let back = c.deref.ensures.value ∙ given in
    let piece = subst (λ f. WhereTold f (λ all. IsPiece (bytes_of all name) c.fetching.done count buffer)) i.kept c.in_ok-count.ensures.fetched in
    let grown : c.feed.new.self ≡ fed c.fetching.reader (take count buffer) c.feed.new.self.held =
    subst (λ p. c.feed.new.self ≡ fed c.fetching.reader (take count p) c.feed.new.self.held) back (c.in_default.ensures.fed i.going) in
    let came : c.feed.new.self.bytes ≡ front ++ take count buffer = ap (λ (r : Reading). r.bytes) grown in
    let size = came_more front buffer c.fetching.done count i.done c.in_ok-count.ensures.count.0 in
    let few = subst (λ p. length (front ++ take count p) ≤ c.fetching.reader.bounds.file) back (c.in_default.ensures.few i.going) in
    record {
      going = ap (λ (r : Reading). r.fault) grown ∙ i.going;
      bounds = ap (λ (r : Reading). r.bounds) grown ∙ i.bounds;
      most = i.most;
      low = i.low;
      done = sym (ap (λ (p : List ℕ). length p) came ∙ size);
      few = omega (arith, few, size, i.most, ap (λ (b : ModuleBounds). b.file) i.bounds);
      front = subst (IsFront (g.V.Vault.files c.args.vault.now) name) (sym came)
          (front_more (g.V.Vault.files c.args.vault.now) name front buffer c.fetching.done count i.done i.front piece);
      are_bytes = subst (All (λ b. b < 2 ^ 8)) (sym came) (are_bytes_more front buffer count i.are_bytes c.fetch_piece.ensures.bytes);
      room = ap (λ (p : List ℕ). length p) given ∙ c.fetch_piece.ensures.long ∙ ap (λ (p : List ℕ). length p) c.as_mut_slice.ensures.value ∙ i.room;
      kept = c.fetch_piece.ensures.kept ∙ i.kept;
      steady = c.in_ok-count.ensures.stays (λ e. cc) ∙ i.steady;
      saves = c.fetch_piece.ensures.saves ∙ i.saves;
    }
