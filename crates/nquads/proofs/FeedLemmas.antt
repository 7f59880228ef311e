-- What one more piece means for a reader and the lines of its text.
use Rattle.std.proofs.Common.{◌≡◌, ℕ, ◌+◌, ◌-◌, ◌^◌, List, [], ◌∷◌, ◌++◌, Bool, true, false, ◌==◌, ◌&&◌, ◌||◌, refl, ap, ◌∙◌, sym, subst, arith, Option, Some, None, min, length, append_assoc, append-nil, length-append}
use Rattle.std.specs.Option.{option_to_list}
use Rattle.std.specs.Prelude.{IfErr, OnErr}
use Rattle.std.specs.declared.result.Result.{Result}
use Rattle.std.specs.declared.result.Result.TheVariants.{Ok, Err}
use Rattle.std.specs.List.{All}
use Rattle.std.proofs.lemmas.List.Elements.{All-nil, All-cons, All-append, All-same}
use Rattle.std.proofs.lemmas.Bool.Decides.{Decides-eqb}
use Rattle.rdf_term.specs.Statement.{Statement}
use Rattle.rdf_term.specs.Validity.{IsValidQuad}
use Rattle.nquads_line.specs.declared.kind.Kind.{Kind}
use Rattle.nquads.specs.declared.fault.DataFault.{DataFault}
use Rattle.nquads.specs.declared.fault.DataFault.TheVariants.{BadLine, TooLong, Memory}
use Rattle.nquads.specs.Lines.{Cut, cut, ends_in_cr, is_end, no_end}
use Rattle.nquads_line.specs.Grammar.{IsLine, IsShortQuad, IsValidLine}
use Rattle.nquads.specs.Documents.{AreLines, IsRefused, UnlessMemory, line_number}
use Rattle.nquads.specs.State.{Reader, new_reader, Stands, Feeds, FailsAt, Stops, Finishes, AppendsValid}
use Rattle.nquads.proofs.LineLemmas.{more, split, cut-snoc, cut-line, cut-end, ends_in_cr-line, ends_in_cr-end}

-- a refused line, told by other words for its kind, its bytes and its number
refused_as : (kind kind' : Kind) (line line' : List ℕ) (n n' : ℕ) (fault : DataFault) → kind ≡ kind' → line ≡ line' → n ≡ n'
    → IsRefused kind line n fault → IsRefused kind' line' n' fault
refused_as kind kind' line line' n n' fault e f g h =
    subst (λ k. IsRefused k line' n' fault) e (subst (λ l. IsRefused kind l n' fault) f (subst (λ m. IsRefused kind line m fault) g h))

pub nil_length : (xs : List ℕ) → (length xs == 0) ≡ true → xs ≡ []
nil_length [] e = refl
nil_length (x ∷ xs) e = let zero : length (x ∷ xs) ≡ 0 = (Decides-eqb (length (x ∷ xs)) 0).0 e in absurd (omega arith)

pub stands_new : (kind : Kind) (r : Reader) → r ≡ new_reader kind → Stands r kind []
stands_new kind r e =
    subst (λ v. Stands v kind []) (sym e) (record { kind_is = refl; line = refl; after_cr = refl; ended = refl; no_fault = refl })

-- the bytes before an end and that end

pub feeds_skip : (kind : Kind) (taken line : List ℕ) (c : ℕ) (r r' : Reader) (out : List Statement) → Stands r kind taken → no_end line ≡ true
    → ((r.after_cr && (length line == 0)) && c == 10) ≡ true
    → r' ≡ record r { after_cr = c == 13 } → Feeds kind taken (line ++ c ∷ []) r' out out
feeds_skip kind taken line c r r' out s n h e =
    let nil : line ≡ [] = nil_length line (split r.after_cr (length line == 0) (split (r.after_cr && (length line == 0)) (c == 10) h).0).1 in
    let k : cut (taken ++ (line ++ c ∷ [])) ≡ record { ended = (cut taken).ended; rest = (cut taken).rest ++ line } =
    cut-end taken line c n ∙ ap (λ b. more b (is_end c) c (record { ended = (cut taken).ended; rest = (cut taken).rest ++ line }))
    (ap (λ b. (b && (length line == 0)) && c == 10) (sym s.after_cr) ∙ h) in
    record {
      stands = subst (λ v. Stands v kind (taken ++ (line ++ c ∷ []))) (sym e) (record {
        kind_is = s.kind_is;
        line = s.line ∙ sym (append-nil _) ∙ ap (λ v. (cut taken).rest ++ v) (sym nil) ∙ ap (λ v. v.rest) (sym k);
        after_cr = sym (ends_in_cr-end taken line c);
        ended = s.ended ∙ ap (λ v. min (length v.ended) (2 ^ 64 - 1)) (sym k);
        no_fault = s.no_fault;
      });
      lines = [];
      quads = [];
      ended = ap (λ v. v.ended) k ∙ sym (append-nil _);
      read = refl;
      appended = sym (append-nil out);
    }

one_more : (n m : ℕ) → m ≡ min n (2 ^ 64 - 1) → min (m + 1) (2 ^ 64 - 1) ≡ min (n + 1) (2 ^ 64 - 1)
one_more n m e = omega arith

cut_ended : (kind : Kind) (taken line : List ℕ) (c : ℕ) (r : Reader) → Stands r kind taken → no_end line ≡ true → is_end c ≡ true
    → ((r.after_cr && (length line == 0)) && c == 10) ≡ false
    → cut (taken ++ (line ++ c ∷ [])) ≡ record { ended = (cut taken).ended ++ ((cut taken).rest ++ line) ∷ []; rest = [] }
cut_ended kind taken line c r s n i h =
    let k : Cut = record { ended = (cut taken).ended; rest = (cut taken).rest ++ line } in
    cut-end taken line c n ∙ ap (λ b. more b (is_end c) c k) (ap (λ b. (b && (length line == 0)) && c == 10) (sym s.after_cr) ∙ h)
    ∙ ap (λ b. more false b c k) i

pub feeds_end : (kind : Kind) (taken line : List ℕ) (c : ℕ) (r r' : Reader) (q : Option Statement) (out out' : List Statement)
    → Stands r kind taken → no_end line ≡ true → is_end c ≡ true → ((r.after_cr && (length line == 0)) && c == 10) ≡ false
    → IsLine r.kind (r.line ++ line) q → IsShortQuad q
    → r' ≡ record r { line = []; after_cr = c == 13; ended = line_number r.ended } → out' ≡ out ++ option_to_list q
    → Feeds kind taken (line ++ c ∷ []) r' out out'
feeds_end kind taken line c r r' q out out' s n i h l t e o =
    let k = cut_ended kind taken line c r s n i h in
    let count : length ((cut taken).ended ++ ((cut taken).rest ++ line) ∷ []) ≡ length (cut taken).ended + 1 = length-append _ _ in
    let is_line : IsLine kind ((cut taken).rest ++ line) q =
    subst (λ v. IsLine v ((cut taken).rest ++ line) q) s.kind_is (subst (λ v. IsLine r.kind (v ++ line) q) s.line l) in
    record {
      stands = subst (λ v. Stands v kind (taken ++ (line ++ c ∷ []))) (sym e) (record {
        kind_is = s.kind_is;
        line = ap (λ v. v.rest) (sym k);
        after_cr = sym (ends_in_cr-end taken line c);
        ended = one_more (length (cut taken).ended) r.ended s.ended ∙ ap (λ v. min v (2 ^ 64 - 1)) (sym count)
            ∙ ap (λ v. min (length v.ended) (2 ^ 64 - 1)) (sym k);
        no_fault = s.no_fault;
      });
      lines = ((cut taken).rest ++ line) ∷ [];
      quads = option_to_list q;
      ended = ap (λ v. v.ended) k;
      read = (q, [], is_line, t, sym (append-nil _), refl);
      appended = o;
    }

pub fails_end : (kind : Kind) (taken line : List ℕ) (c : ℕ) (fault : DataFault) (r : Reader) (out out' : List Statement)
    → Stands r kind taken → no_end line ≡ true → is_end c ≡ true → ((r.after_cr && (length line == 0)) && c == 10) ≡ false
    → IsRefused r.kind (r.line ++ line) (line_number r.ended) fault → out' ≡ out → FailsAt kind taken (line ++ c ∷ []) fault out out'
fails_end kind taken line c fault r out out' s n i h l o =
    let none : length (cut taken).ended + 1 ≡ length (cut taken).ended + 0 + 1 = omega arith in
    record {
      good = [];
      bad = (cut taken).rest ++ line;
      later = [];
      quads = [];
      ended = ap (λ v. v.ended) (cut_ended kind taken line c r s n i h);
      read = refl;
      refused = refused_as r.kind kind (r.line ++ line) ((cut taken).rest ++ line) (line_number r.ended) _ fault s.kind_is
          (ap (λ v. v ++ line) s.line) (one_more (length (cut taken).ended) r.ended s.ended ∙ ap (λ v. min v (2 ^ 64 - 1)) none) l;
      appended = o ∙ sym (append-nil out);
    }

-- bytes without an end
pub feeds_keep : (kind : Kind) (taken line : List ℕ) (r r' : Reader) (out : List Statement) → Stands r kind taken → no_end line ≡ true
    → r' ≡ record r { line = r.line ++ line; after_cr = r.after_cr && (length line == 0) } → Feeds kind taken line r' out out
feeds_keep kind taken line r r' out s n e =
    let k = cut-line taken line n in
    record {
      stands = subst (λ v. Stands v kind (taken ++ line)) (sym e) (record {
        kind_is = s.kind_is;
        line = ap (λ v. v ++ line) s.line ∙ ap (λ v. v.rest) (sym k);
        after_cr = ap (λ b. b && (length line == 0)) s.after_cr ∙ sym (ends_in_cr-line taken line n);
        ended = s.ended ∙ ap (λ v. min (length v.ended) (2 ^ 64 - 1)) (sym k);
        no_fault = s.no_fault;
      });
      lines = [];
      quads = [];
      ended = ap (λ v. v.ended) k ∙ sym (append-nil _);
      read = refl;
      appended = sym (append-nil out);
    }

-- the pieces of a piece

grows_more : (skip ends : Bool) (c : ℕ) (k : Cut) → (later : List (List ℕ)) × ((more skip ends c k).ended ≡ k.ended ++ later)
grows_more true ends c k = ([], sym (append-nil _))
grows_more false true c k = (k.rest ∷ [], refl)
grows_more false false c k = ([], sym (append-nil _))

-- a line that has ended stays so
grows : (xs ys : List ℕ) → (later : List (List ℕ)) × ((cut (xs ++ ys)).ended ≡ (cut xs).ended ++ later)
grows xs [] = ([], ap (λ v. (cut v).ended) (append-nil xs) ∙ sym (append-nil _))
grows xs (c ∷ ys) =
    let one = grows_more (ends_in_cr xs && c == 10) (c == 13 || c == 10) c (cut xs) in
    let rest = grows (xs ++ c ∷ []) ys in (
      one.0 ++ rest.0,
      ap (λ v. (cut v).ended) (sym (append_assoc xs (c ∷ []) ys)) ∙ rest.1
          ∙ ap (λ v. v.ended ++ rest.0) (cut-snoc xs c) ∙ ap (λ v. v ++ rest.0) one.1 ∙ append_assoc (cut xs).ended one.0 rest.0,
    )

pub AreLines-append : (kind : Kind) (ls ms : List (List ℕ)) (qs rs : List Statement) → AreLines kind ls qs → AreLines kind ms rs
    → AreLines kind (ls ++ ms) (qs ++ rs)
AreLines-append kind [] ms qs rs h k = subst (λ v. AreLines kind ms v) (ap (λ v. v ++ rs) (sym h)) k
AreLines-append kind (l ∷ ls) ms qs rs h k =
    (h.0, h.1 ++ rs, h.2, h.3, ap (λ v. v ++ rs) h.4 ∙ append_assoc (option_to_list h.0) h.1 rs, AreLines-append kind ls ms h.1 rs h.5 k)

pub feeds_none : (kind : Kind) (taken : List ℕ) (r : Reader) (out : List Statement) → Stands r kind taken → Feeds kind taken [] r out out
feeds_none kind taken r out s =
    record {
      stands = subst (λ v. Stands r kind v) (sym (append-nil taken)) s;
      lines = [];
      quads = [];
      ended = ap (λ v. (cut v).ended) (append-nil taken) ∙ sym (append-nil _);
      read = refl;
      appended = sym (append-nil out);
    }

pub feeds_more : (kind : Kind) (taken xs ys : List ℕ) (r r' : Reader) (out out' out'' : List Statement)
    → Feeds kind taken xs r out out' → Feeds kind (taken ++ xs) ys r' out' out'' → Feeds kind taken (xs ++ ys) r' out out''
feeds_more kind taken xs ys r r' out out' out'' f g =
    record {
      stands = subst (λ v. Stands r' kind v) (append_assoc taken xs ys) g.stands;
      lines = f.lines ++ g.lines;
      quads = f.quads ++ g.quads;
      ended = ap (λ v. (cut v).ended) (sym (append_assoc taken xs ys)) ∙ g.ended ∙ ap (λ v. v ++ g.lines) f.ended
          ∙ append_assoc (cut taken).ended f.lines g.lines;
      read = AreLines-append kind f.lines g.lines f.quads g.quads f.read g.read;
      appended = g.appended ∙ ap (λ v. v ++ g.quads) f.appended ∙ append_assoc out f.quads g.quads;
    }

pub fails_more : (kind : Kind) (taken xs ys zs : List ℕ) (fault : DataFault) (r : Reader) (out out' out'' : List Statement)
    → Feeds kind taken xs r out out' → FailsAt kind (taken ++ xs) ys fault out' out'' → FailsAt kind taken (xs ++ (ys ++ zs)) fault out out''
fails_more kind taken xs ys zs fault r out out' out'' f g =
    let more' = grows ((taken ++ xs) ++ ys) zs in
    let left : taken ++ (xs ++ (ys ++ zs)) ≡ ((taken ++ xs) ++ ys) ++ zs = simp append_assoc in
    let right : (((cut taken).ended ++ f.lines) ++ (g.good ++ g.bad ∷ g.later)) ++ more'.0
    ≡ (cut taken).ended ++ ((f.lines ++ g.good) ++ g.bad ∷ (g.later ++ more'.0)) = simp append_assoc in
    let whole : (cut (taken ++ (xs ++ (ys ++ zs)))).ended ≡ (cut taken).ended ++ ((f.lines ++ g.good) ++ g.bad ∷ (g.later ++ more'.0)) =
    ap (λ v. (cut v).ended) left ∙ more'.1 ∙ ap (λ v. v ++ more'.0) (g.ended ∙ ap (λ v. v ++ (g.good ++ g.bad ∷ g.later)) f.ended) ∙ right in
    let count : length (cut (taken ++ xs)).ended ≡ length (cut taken).ended + length f.lines =
    ap length f.ended ∙ length-append (cut taken).ended f.lines in
    let both : length (cut (taken ++ xs)).ended + length g.good ≡ length (cut taken).ended + length (f.lines ++ g.good) =
    omega (arith, length-append f.lines g.good) in
    record {
      good = f.lines ++ g.good;
      bad = g.bad;
      later = g.later ++ more'.0;
      quads = f.quads ++ g.quads;
      ended = whole;
      read = AreLines-append kind f.lines g.good f.quads g.quads f.read g.read;
      refused = subst (λ v. IsRefused kind g.bad (line_number v) fault) both g.refused;
      appended = g.appended ∙ ap (λ v. v ++ g.quads) f.appended ∙ append_assoc out f.quads g.quads;
    }

pub stops_more : (kind : Kind) (taken xs zs : List ℕ) (r : Reader) (out out' out'' : List Statement) → Feeds kind taken xs r out out' → out'' ≡ out'
    → Stops kind taken (xs ++ zs) out out''
stops_more kind taken xs zs r out out' out'' f e =
    let later = grows (taken ++ xs) zs in
    record {
      good = f.lines;
      later = later.0;
      quads = f.quads;
      ended = ap (λ v. (cut v).ended) (sym (append_assoc taken xs zs)) ∙ later.1 ∙ ap (λ v. v ++ later.0) f.ended
          ∙ append_assoc (cut taken).ended f.lines later.0;
      read = f.read;
      appended = e ∙ f.appended;
    }

pub unless : (fault : DataFault) (P Q : Type 0) → (P → Q) → UnlessMemory fault P → UnlessMemory fault Q
unless (BadLine n) P Q f h = f h
unless (TooLong n) P Q f h = f h
unless Memory P Q f h = tt

-- clauses on an error

pub both_err : {T E : Type 0} (r : Result T E) {P Q R : E → Type 0} → ((y : E) → P y → Q y → R y) → IfErr r P → IfErr r Q → IfErr r R
both_err (Ok x) f h k = tt
both_err (Err y) f h k = f y h k

pub always_err : {T E P : Type 0} (r : Result T E) → P → OnErr r P
always_err (Ok x) h = tt
always_err (Err y) h = h

-- a line that stands whole in a piece is the line that ends
pub end_whole : (r r' : Reader) (line : List ℕ) (n : ℕ) (q : Option Statement) (out out' : List Statement) → r.line ≡ [] → IsLine r.kind line q
    → IsShortQuad q → out' ≡ out ++ option_to_list q → n ≡ line_number r.ended → r' ≡ record r { ended = n }
    → (x : Option Statement) × IsLine r.kind (r.line ++ line) x × IsShortQuad x × (out' ≡ out ++ option_to_list x)
    × (r' ≡ record r { line = []; ended = line_number r.ended })
end_whole r r' line n q out out' nil l s o e same =
    (q, subst (λ v. IsLine r.kind (v ++ line) q) (sym nil) l, s, o, same ∙ (λ i. record r { line = nil i; ended = e i }))

-- what came after the last end is the last line
pub finishes_last : (kind : Kind) (taken : List ℕ) (r : Reader) (last : List ℕ) (q : Option Statement) (out out' : List Statement)
    → Stands r kind taken → last ≡ r.line → IsLine r.kind last q → IsShortQuad q → out' ≡ out ++ option_to_list q → Finishes kind taken out out'
finishes_last kind taken r last q out out' s e l t o =
    record {
      quad = q;
      read = subst (λ k. IsLine k (cut taken).rest q) s.kind_is (subst (λ v. IsLine r.kind v q) (e ∙ s.line) l);
      short = t;
      appended = o;
    }

-- quads of valid terms

pub valid_none : (before after : List Statement) → after ≡ before → AppendsValid before after
valid_none before after e = record { quads = []; appended = e ∙ sym (append-nil before); valid = All-nil IsValidQuad }

pub valid_line : (before after : List Statement) (q : Option Statement) → IsValidLine q → after ≡ before ++ option_to_list q → AppendsValid before after
valid_line before after None h e = record { quads = []; appended = e; valid = All-nil IsValidQuad }
valid_line before after (Some q) h e =
    record { quads = q ∷ []; appended = e; valid = All-cons IsValidQuad q [] h (All-nil IsValidQuad) }

pub valid_more : (before between after : List Statement) → AppendsValid before between → AppendsValid between after → AppendsValid before after
valid_more before between after f g =
    record {
      quads = f.quads ++ g.quads;
      appended = g.appended ∙ ap (λ v. v ++ g.quads) f.appended ∙ append_assoc before f.quads g.quads;
      valid = All-append IsValidQuad f.quads g.quads f.valid g.valid;
    }

-- those that were appended to nothing
pub valid_all : (before after : List Statement) → before ≡ [] → AppendsValid before after → All IsValidQuad after
valid_all before after e f =
    All-same IsValidQuad after f.quads (f.appended ∙ ap (λ v. v ++ f.quads) e) f.valid
