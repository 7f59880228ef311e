-- A stream has one frame, and a head and its body are one.
use Rattle.std.proofs.Common.{◌≡◌, ℕ, List, [], ◌++◌, Option, Some, Result, Ok, Err, Bool, sym, ap, ap₂, ◌∙◌, subst, refl, arith, append_assoc, inl, inr}
use Rattle.std.proofs.lemmas.Str.{encodes_same}
use Rattle.httparse.specs.Grammar.{RequestHead, print_request}
use Rattle.httparse.proofs.GrammarLemmas.{request_unique, ReadsRequest-append}
use Rattle.http_frame.specs.Answers.{NextHead, TakesBody, NextBody, NextFrame}
use Rattle.http_frame.specs.Bodies.{IsBody, IsBodyRefused}
use Rattle.http_frame.specs.Framing.{framing}
use Rattle.http_frame.specs.Frames.{BeginsWithHead, IsRequest, IsHeadRefused, no_head, bad_head, IsRefused, by_head, by_body, Frame, nothing, request, refusal, IsFrame}
use Rattle.http_frame.specs.Heads.{HasNoHead, Shows}
use Rattle.http_frame.specs.Laws.{answer_behind}
use Rattle.http_frame.specs.Limits.{most_body}
use Rattle.http_frame.specs.Messages.{SeenRequest}
use Rattle.http_frame.specs.Streams.{IsStream}
use Rattle.http_frame.specs.declared.fault.FrameFault.{FrameFault}
use Rattle.http_frame.specs.declared.fault.FrameFault.TheVariants.{BadHead, BadHost, BadBody, BodyTooLong, Coding, Truncated, ReadFault, Memory}
use Rattle.http_frame.specs.declared.framing.Framing.{Framing}
use Rattle.http_frame.specs.declared.message.Head.{Head}
use Rattle.http_frame.proofs.BodyLemmas.{one_body, body_or_refused, one_body_fault, body_stays}
use Rattle.http_frame.proofs.HeadLemmas.{none_in_nothing}

abbrev head_with : List ℕ → List ℕ → ℕ → List (List ℕ × List ℕ) → Bool → Bool → Head
head_with method target minor fields expects closes =
    record { method = method; target = target; minor = minor; fields = fields; expects = expects; closes = closes }

one_shown : (h k : RequestHead) (x y : Head) → h ≡ k → Shows h x → Shows k y → x ≡ y
one_shown h k x y e s t =
    let m : x.method ≡ y.method = encodes_same x.method y.method (s.method ∙ ap (λ (z : RequestHead). z.method) e ∙ sym t.method) in
    let u : x.target ≡ y.target = encodes_same x.target y.target (s.target ∙ ap (λ (z : RequestHead). z.target) e ∙ sym t.target) in
    let v : x.minor ≡ y.minor = s.minor ∙ ap (λ (z : RequestHead). z.minor) e ∙ sym t.minor in
    let f : x.fields ≡ y.fields = cc (s.fields, t.fields, e) in
    let w : x.expects ≡ y.expects = cc (s.expects, t.expects, e) in
    let l : x.closes ≡ y.closes = cc (s.closes, t.closes, e) in
    let all : head_with x.method x.target x.minor x.fields x.expects x.closes ≡ head_with y.method y.target y.minor y.fields y.expects y.closes = cc in all

-- a stream begins with one head
pub one_head : (b : List ℕ) (x y : Head) (a c : List ℕ) → BeginsWithHead b x a → BeginsWithHead b y c → (x ≡ y) × (a ≡ c)
one_head b x y a c p q =
    let same = request_unique b p.head q.head a c p.reads.reads q.reads.reads in
    (one_shown p.head q.head x y same.0 p.shows q.shows, same.1)

no_head_here : (b : List ℕ) (x : Head) (a : List ℕ) → BeginsWithHead b x a → HasNoHead b → ⊥
no_head_here b x a p none = none p.head a p.reads

same_framing : (b : List ℕ) (x y : Head) (a c : List ℕ) → BeginsWithHead b x a → BeginsWithHead b y c → framing x ≡ framing y
same_framing b x y a c p q = ap framing (one_head b x y a c p q).0

-- both heads are the same, and what is said of the second's body is said of the first's
framed_alike : (b : List ℕ) (x y : Head) (a c : List ℕ) (f g : Framing) → BeginsWithHead b x a → BeginsWithHead b y c
    → framing x ≡ Ok f → framing y ≡ Ok g → (g ≡ f) × (c ≡ a)
framed_alike b x y a c f g p q e h = (cc (e, h, same_framing b x y a c p q), sym (one_head b x y a c p q).1)

abbrev request_with : Head → List ℕ → SeenRequest
request_with head body = record { head = head; body = body }

pub one_request : (b : List ℕ) (r r' : SeenRequest) (rest rest' : List ℕ) → IsRequest b r rest → IsRequest b r' rest' → (r ≡ r') × (rest ≡ rest')
one_request b r r' rest rest' x y =
    let heads = (one_head b r.head r'.head x.after y.after x.begins y.begins).0 in
    let alike = framed_alike b r.head r'.head x.after y.after x.framed_as y.framed_as x.begins y.begins x.framed y.framed in
    let second = subst (λ (f : Framing). IsBody f x.after r'.body rest') alike.0 (subst (λ (z : List ℕ). IsBody y.framed_as z r'.body rest') alike.1 y.body) in
    let same = one_body most_body x.framed_as x.after r.body r'.body rest rest' x.body second in
    let bodies = same.0 in
    let all : request_with r.head r.body ≡ request_with r'.head r'.body = cc in
    (all, same.1)

pub not_both : (b : List ℕ) (r : SeenRequest) (rest : List ℕ) (fault : FrameFault) → IsRequest b r rest → IsRefused b fault → ⊥
not_both b r rest fault x (by_head (no_head e some none)) = no_head_here b r.head x.after x.begins none
not_both b r rest fault x (by_head (bad_head head after begins e)) = cc (x.framed, e, same_framing b r.head head x.after after x.begins begins)
not_both b r rest fault x (by_body head after f begins framed refused) =
    let alike = framed_alike b r.head head x.after after x.framed_as f x.begins begins x.framed framed in
    body_or_refused most_body x.framed_as x.after r.body rest fault x.body
    (subst (λ (g : Framing). IsBodyRefused g x.after fault) alike.0 (subst (λ (z : List ℕ). IsBodyRefused f z fault) alike.1 refused))

pub one_fault : (b : List ℕ) (fault fault' : FrameFault) → IsRefused b fault → IsRefused b fault' → fault ≡ fault'
one_fault b fault fault' (by_head (no_head e some none)) (by_head (no_head e' some' none')) = e ∙ sym e'
one_fault b fault fault' (by_head (no_head e some none)) (by_head (bad_head head after begins e')) = absurd (no_head_here b head after begins none)
one_fault b fault fault' (by_head (no_head e some none)) (by_body head after f begins framed refused) = absurd (no_head_here b head after begins none)
one_fault b fault fault' (by_head (bad_head head after begins e)) (by_head (no_head e' some none)) = absurd (no_head_here b head after begins none)
one_fault b fault fault' (by_head (bad_head head after begins e)) (by_head (bad_head head' after' begins' e')) =
    cc (e, e', same_framing b head head' after after' begins begins')
one_fault b fault fault' (by_head (bad_head head after begins e)) (by_body head' after' f begins' framed refused) =
    cc (e, framed, same_framing b head head' after after' begins begins')
one_fault b fault fault' (by_body head after f begins framed refused) (by_head (no_head e some none)) = absurd (no_head_here b head after begins none)
one_fault b fault fault' (by_body head after f begins framed refused) (by_head (bad_head head' after' begins' e)) =
    cc (e, framed, same_framing b head head' after after' begins begins')
one_fault b fault fault' (by_body head after f begins framed refused) (by_body head' after' f' begins' framed' refused') =
    let alike = framed_alike b head head' after after' f f' begins begins' framed framed' in
    one_body_fault most_body f after fault fault' refused
    (subst (λ (g : Framing). IsBodyRefused g after fault') alike.0 (subst (λ (z : List ℕ). IsBodyRefused f' z fault') alike.1 refused'))

pub no_request : (r : SeenRequest) (rest : List ℕ) → IsRequest [] r rest → ⊥
no_request r rest x = no_head_here [] r.head x.after x.begins (none_in_nothing [] refl)

pub no_refusal : (fault : FrameFault) → IsRefused [] fault → ⊥
no_refusal fault (by_head (no_head e some none)) = omega arith
no_refusal fault (by_head (bad_head head after begins e)) = no_head_here [] head after begins (none_in_nothing [] refl)
no_refusal fault (by_body head after f begins framed refused) = no_head_here [] head after begins (none_in_nothing [] refl)

pub one_frame : (b : List ℕ) (x y : Frame) → IsFrame b x → IsFrame b y → x ≡ y
one_frame b nothing nothing x y = refl
one_frame b nothing (request r rest) x y = absurd (no_request r rest (subst (λ (z : List ℕ). IsRequest z r rest) x y))
one_frame b nothing (refusal fault) x y = absurd (no_refusal fault (subst (λ (z : List ℕ). IsRefused z fault) x y))
one_frame b (request r rest) nothing x y = absurd (no_request r rest (subst (λ (z : List ℕ). IsRequest z r rest) y x))
one_frame b (request r rest) (request r' rest') x y = let same = one_request b r r' rest rest' x y in ap₂ request same.0 same.1
one_frame b (request r rest) (refusal fault) x y = absurd (not_both b r rest fault x y)
one_frame b (refusal fault) nothing x y = absurd (no_refusal fault (subst (λ (z : List ℕ). IsRefused z fault) y x))
one_frame b (refusal fault) (request r rest) x y = absurd (not_both b r rest fault y x)
one_frame b (refusal fault) (refusal fault') x y = ap refusal (one_fault b fault fault' x y)

pub stays_request : (b : List ℕ) (r : SeenRequest) (rest more : List ℕ) → IsRequest b r rest → IsRequest (b ++ more) r (rest ++ more)
stays_request b r rest more x =
    let p = x.begins in
    record {
      after = x.after ++ more;
      begins = record {
        head = p.head;
        reads = record { reads = ReadsRequest-append b p.head x.after more p.reads.reads; short = p.reads.short; few = p.reads.few };
        shows = p.shows;
      };
      framed_as = x.framed_as;
      framed = x.framed;
      body = body_stays most_body x.framed_as x.after r.body rest more x.body;
    }

-- no head: the answer is that on the frame
pub head_is_frame : (fault : FrameFault) (b held : List ℕ) (left : Option (List ℕ)) → NextHead b held left (Err fault) → NextFrame b held left (Err fault)
head_is_frame ReadFault b held left n = (held, n.0, inl n.1)
head_is_frame Memory b held left n = tt
head_is_frame BadHead b held left n = by_head n
head_is_frame BadHost b held left n = by_head n
head_is_frame BadBody b held left n = by_head n
head_is_frame Coding b held left n = by_head n
head_is_frame BodyTooLong b held left n = by_head n
head_is_frame Truncated b held left n = by_head n

-- a refusal behind a head without a fault
refused_behind : (fault : FrameFault) (b mid held : List ℕ) (left : Option (List ℕ)) (head : Head) (f : Framing) → BeginsWithHead b head mid → framing head ≡ Ok f
    → TakesBody f mid held left (Err fault) → NextFrame b held left (Err fault)
refused_behind ReadFault b mid held left head f begins framed n =
    let p = print_request begins.head in
    let part : b ≡ (p ++ n.0) ++ n.1.0 = begins.reads.reads.1 ∙ ap (λ (z : List ℕ). p ++ z) n.1.2 ∙ sym (append_assoc p n.0 n.1.0) in
    let cut : BeginsWithHead (p ++ n.0) head n.0 = record {
      head = begins.head;
      reads = record { reads = (begins.reads.reads.0, refl); short = begins.reads.short; few = begins.reads.few };
      shows = begins.shows;
    } in
    (p ++ n.0, (n.1.0, n.1.1, part), inr (head, n.0, f, cut, framed, n.2))
refused_behind Memory b mid held left head f begins framed n = tt
refused_behind BadHead b mid held left head f begins framed n = by_body head mid f begins framed n
refused_behind BadHost b mid held left head f begins framed n = by_body head mid f begins framed n
refused_behind BadBody b mid held left head f begins framed n = by_body head mid f begins framed n
refused_behind Coding b mid held left head f begins framed n = by_body head mid f begins framed n
refused_behind BodyTooLong b mid held left head f begins framed n = by_body head mid f begins framed n
refused_behind Truncated b mid held left head f begins framed n = by_body head mid f begins framed n

-- a head, and then the request of it
pub body_is_frame : (answer : Result SeenRequest FrameFault) (b held held' : List ℕ) (left left' : Option (List ℕ)) (head : Head)
    → NextHead b held left (Ok (Some head)) → ((mid : List ℕ) → IsStream held left mid → NextBody head mid held' left' answer)
    → NextFrame b held' left' (answer_behind answer)
body_is_frame (Ok r) b held held' left left' head first second =
    let begins = first.1 in
    let body = second first.0 first.4 in (
      body.3.0,
      record {
        after = first.0;
        begins = record { head = begins.head; reads = begins.reads; shows = subst (λ (x : Head). Shows begins.head x) (sym body.0) begins.shows };
        framed_as = body.1;
        framed = ap framing body.0 ∙ body.2;
        body = body.3.1;
      },
      body.3.2,
    )
body_is_frame (Err fault) b held held' left left' head first second =
    elim (second first.0 first.4) [
      | inl shown ↦ cc (first.3, shown)
      | inr body ↦ refused_behind fault b first.0 held' left' head body.0 first.1 body.1 body.2
    ]

-- a head without a fault is not refused
pub accepted_or_refused : (b : List ℕ) (head : Head) (after : List ℕ) (f : Framing) (fault : FrameFault) → BeginsWithHead b head after → framing head ≡ Ok f
    → IsHeadRefused b fault → ⊥
accepted_or_refused b head after f fault begins framed (no_head e some none) = no_head_here b head after begins none
accepted_or_refused b head after f fault begins framed (bad_head head' after' begins' e) = cc (framed, e, same_framing b head head' after after' begins begins')

pub no_head_in_nothing : (head : Head) (after : List ℕ) → BeginsWithHead [] head after → ⊥
no_head_in_nothing head after begins = no_head_here [] head after begins (none_in_nothing [] refl)
