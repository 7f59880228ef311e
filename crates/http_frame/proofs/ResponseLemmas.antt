-- A stream of responses has one frame, and a head and its body are one.
use Rattle.std.proofs.Common.{◌≡◌, ◌⊎◌, ℕ, ◌+◌, ◌<◌, ◌≤◌, List, [], ◌∷◌, ◌++◌, length, Option, Some, None, Result, Ok, Err, true, false, cond, sym, ap, ap₂, ◌∙◌, subst, refl, arith, append_assoc, inl, inr}
use Rattle.httparse.specs.Grammar.{ResponseHead, status_code, print_response, ReadsResponse}
use Rattle.httparse.proofs.GrammarLemmas.{response_unique}
use Rattle.http_frame.specs.Answers.{IsTaken}
use Rattle.http_frame.specs.Faults.{IsShown}
use Rattle.http_frame.specs.Fields.{values_of}
use Rattle.http_frame.specs.Limits.{most_response}
use Rattle.http_frame.specs.Messages.{SeenResponse}
use Rattle.http_frame.specs.ResponseAnswers.{NextStatus, TakesResponseBody, ResponseBehind, StandsBehind, NextFinal, IsResponseCutOff, NextResponse}
use Rattle.http_frame.specs.Responses.{is_informational, framed_response, response_framing, IsResponseBody, IsResponseBodyRefused, IsResponseBodyOpen, IsResponse, IsResponseRefused, no_status_head, bad_status_head, bad_response_body, PassesOver, passes_none, passes_one, ResponseFrame, no_response, response, response_refusal, IsOneTooMany, IsLast, IsResponseFrame}
use Rattle.http_frame.specs.StatusHeads.{HasNoStatusHead, ShowsStatus, BeginsWithStatus}
use Rattle.http_frame.specs.Streams.{IsStream}
use Rattle.http_frame.specs.declared.fault.FrameFault.{FrameFault}
use Rattle.http_frame.specs.declared.fault.FrameFault.TheVariants.{BadHead, BadHost, BadBody, BodyTooLong, Coding, Truncated, ReadFault, Memory}
use Rattle.http_frame.specs.declared.framing.Framing.TheVariants.{Length, Chunked}
use Rattle.http_frame.specs.declared.message.StatusHead.{StatusHead}
use Rattle.http_frame.specs.declared.response_framing.ResponseFraming.{ResponseFraming}
use Rattle.http_frame.specs.declared.response_framing.ResponseFraming.TheVariants.{Sized, ToEnd}
use Rattle.http_frame.proofs.BodyLemmas.{one_body, body_or_refused, one_body_fault}
use Rattle.http_frame.proofs.StatusLemmas.{none_in_nothing}

abbrev head_with : ℕ → ℕ → List (List ℕ × List ℕ) → StatusHead
head_with status minor fields = record { status = status; minor = minor; fields = fields }

one_shown : (h k : ResponseHead) (x y : StatusHead) → h ≡ k → ShowsStatus h x → ShowsStatus k y → x ≡ y
one_shown h k x y e s t =
    let c : x.status ≡ y.status = s.status ∙ ap status_code e ∙ sym t.status in
    let v : x.minor ≡ y.minor = s.minor ∙ ap (λ (z : ResponseHead). z.minor) e ∙ sym t.minor in
    let f : x.fields ≡ y.fields = cc (s.fields, t.fields, e) in
    let all : head_with x.status x.minor x.fields ≡ head_with y.status y.minor y.fields = cc in all

-- a stream begins with one head
one_head : (b : List ℕ) (x y : StatusHead) (a c : List ℕ) → BeginsWithStatus b x a → BeginsWithStatus b y c → (x ≡ y) × (a ≡ c)
one_head b x y a c p q =
    let same = response_unique b p.head q.head a c p.reads.reads q.reads.reads in
    (one_shown p.head q.head x y same.0 p.shows q.shows, same.1)

no_head_here : (b : List ℕ) (x : StatusHead) (a : List ℕ) → BeginsWithStatus b x a → HasNoStatusHead b → ⊥
no_head_here b x a p none = none p.head a p.reads

same_framing : (b : List ℕ) (x y : StatusHead) (a c : List ℕ) → BeginsWithStatus b x a → BeginsWithStatus b y c → response_framing x ≡ response_framing y
same_framing b x y a c p q = ap response_framing (one_head b x y a c p q).0

-- both heads are the same, and what is said of the second's body is said of the first's
framed_alike : (b : List ℕ) (x y : StatusHead) (a c : List ℕ) (f g : ResponseFraming) → BeginsWithStatus b x a → BeginsWithStatus b y c
    → response_framing x ≡ Ok f → response_framing y ≡ Ok g → (g ≡ f) × (c ≡ a)
framed_alike b x y a c f g p q e h = (cc (e, h, same_framing b x y a c p q), sym (one_head b x y a c p q).1)

-- bodies

one_response_body : (f : ResponseFraming) (b body body' rest rest' : List ℕ) → IsResponseBody f b body rest → IsResponseBody f b body' rest'
    → (body ≡ body') × (rest ≡ rest')
one_response_body (Sized f) b body body' rest rest' x y = one_body most_response f b body body' rest rest' x y
one_response_body ToEnd b body body' rest rest' x y = (x.0 ∙ sym y.0, x.1 ∙ sym y.1)

response_body_or_refused : (f : ResponseFraming) (b body rest : List ℕ) (fault : FrameFault) → IsResponseBody f b body rest
    → IsResponseBodyRefused f b fault → ⊥
response_body_or_refused (Sized f) b body rest fault x y = body_or_refused most_response f b body rest fault x y
response_body_or_refused ToEnd b body rest fault x y =
    let size = ap length x.0 in
    let few = x.2 in
    let many = y.1 in
    omega arith

one_response_body_fault : (f : ResponseFraming) (b : List ℕ) (fault fault' : FrameFault) → IsResponseBodyRefused f b fault
    → IsResponseBodyRefused f b fault' → fault ≡ fault'
one_response_body_fault (Sized f) b fault fault' x y = one_body_fault most_response f b fault fault' x y
one_response_body_fault ToEnd b fault fault' x y = x.0 ∙ sym y.0

-- one response

abbrev response_with : ℕ → List (List ℕ × List ℕ) → List ℕ → SeenResponse
response_with status fields body = record { status = status; fields = fields; body = body }

one_response : (b : List ℕ) (r r' : SeenResponse) (rest rest' : List ℕ) → IsResponse b r rest → IsResponse b r' rest' → (r ≡ r') × (rest ≡ rest')
one_response b r r' rest rest' x y =
    let heads = (one_head b x.head y.head x.after y.after x.begins y.begins).0 in
    let alike = framed_alike b x.head y.head x.after y.after x.framed_as y.framed_as x.begins y.begins x.framed y.framed in
    let second = subst (λ (f : ResponseFraming). IsResponseBody f x.after r'.body rest') alike.0 (subst (λ (z : List ℕ). IsResponseBody y.framed_as z r'.body rest') alike.1 y.body) in
    let same = one_response_body x.framed_as x.after r.body r'.body rest rest' x.body second in
    let bodies = same.0 in
    let status : r.status ≡ r'.status = x.status_is ∙ ap (λ (z : StatusHead). z.status) heads ∙ sym y.status_is in
    let fields : r.fields ≡ r'.fields = x.fields_are ∙ ap (λ (z : StatusHead). z.fields) heads ∙ sym y.fields_are in
    let all : response_with r.status r.fields r.body ≡ response_with r'.status r'.fields r'.body = cc in
    (all, same.1)

response_or_refused : (b : List ℕ) (r : SeenResponse) (rest : List ℕ) (fault : FrameFault) → IsResponse b r rest → IsResponseRefused b fault → ⊥
response_or_refused b r rest fault x (no_status_head e some none) = no_head_here b x.head x.after x.begins none
response_or_refused b r rest fault x (bad_status_head head after begins e) = cc (x.framed, e, same_framing b x.head head x.after after x.begins begins)
response_or_refused b r rest fault x (bad_response_body head after f begins framed refused) =
    let alike = framed_alike b x.head head x.after after x.framed_as f x.begins begins x.framed framed in
    response_body_or_refused x.framed_as x.after r.body rest fault x.body
    (subst (λ (g : ResponseFraming). IsResponseBodyRefused g x.after fault) alike.0 (subst (λ (z : List ℕ). IsResponseBodyRefused f z fault) alike.1 refused))

one_fault : (b : List ℕ) (fault fault' : FrameFault) → IsResponseRefused b fault → IsResponseRefused b fault' → fault ≡ fault'
one_fault b fault fault' (no_status_head e some none) (no_status_head e' some' none') = e ∙ sym e'
one_fault b fault fault' (no_status_head e some none) (bad_status_head head after begins e') = absurd (no_head_here b head after begins none)
one_fault b fault fault' (no_status_head e some none) (bad_response_body head after f begins framed refused) = absurd (no_head_here b head after begins none)
one_fault b fault fault' (bad_status_head head after begins e) (no_status_head e' some none) = absurd (no_head_here b head after begins none)
one_fault b fault fault' (bad_status_head head after begins e) (bad_status_head head' after' begins' e') =
    cc (e, e', same_framing b head head' after after' begins begins')
one_fault b fault fault' (bad_status_head head after begins e) (bad_response_body head' after' f begins' framed refused) =
    cc (e, framed, same_framing b head head' after after' begins begins')
one_fault b fault fault' (bad_response_body head after f begins framed refused) (no_status_head e some none) = absurd (no_head_here b head after begins none)
one_fault b fault fault' (bad_response_body head after f begins framed refused) (bad_status_head head' after' begins' e) =
    cc (e, framed, same_framing b head head' after after' begins begins')
one_fault b fault fault' (bad_response_body head after f begins framed refused) (bad_response_body head' after' f' begins' framed' refused') =
    let alike = framed_alike b head head' after after' f f' begins begins' framed framed' in
    one_response_body_fault f after fault fault' refused
    (subst (λ (g : ResponseFraming). IsResponseBodyRefused g after fault') alike.0 (subst (λ (z : List ℕ). IsResponseBodyRefused f' z fault') alike.1 refused'))

nothing_begins : (r : SeenResponse) (rest : List ℕ) → IsResponse [] r rest → ⊥
nothing_begins r rest x = no_head_here [] x.head x.after x.begins (none_in_nothing [] refl)

nothing_refused : (fault : FrameFault) → IsResponseRefused [] fault → ⊥
nothing_refused fault (no_status_head e some none) = omega arith
nothing_refused fault (bad_status_head head after begins e) = no_head_here [] head after begins (none_in_nothing [] refl)
nothing_refused fault (bad_response_body head after f begins framed refused) = no_head_here [] head after begins (none_in_nothing [] refl)

-- informational responses before one

-- b begins with an informational response
abbrev Informs : List ℕ → Type 0
Informs b = (r : SeenResponse) × (after : List ℕ) × IsResponse b r after × (is_informational r.status ≡ true)

-- of two ways to pass over responses one goes on where the other stops, or they are the same
compare : (n n' : ℕ) (b mid mid' : List ℕ) → PassesOver n b mid → PassesOver n' b mid'
    → ((n ≡ n') × (mid ≡ mid')) ⊎ (((n < n') × Informs mid) ⊎ ((n' < n) × Informs mid'))
compare n n' b mid mid' (passes_none e f) (passes_none e' f') = inl (e ∙ sym e', sym f ∙ f')
compare n n' b mid mid' (passes_none e f) (passes_one m r after e' is informs more) = inr (inl (omega arith, subst Informs f (r, after, is, informs)))
compare n n' b mid mid' (passes_one m r after e is informs more) (passes_none e' f) = inr (inr (omega arith, subst Informs f (r, after, is, informs)))
compare n n' b mid mid' (passes_one m r after e is informs more) (passes_one m' r' after' e' is' informs' more') =
    let same = (one_response b r r' after after' is is').1 in
    elim (compare m m' after mid mid' more (subst (λ (z : List ℕ). PassesOver m' z mid') (sym same) more')) [
      | inl both ↦ (let first = both.0 in inl (omega arith, both.1))
      | inr other ↦ elim other [
        | inl less ↦ (let few = less.0 in inr (inl (omega arith, less.1)))
        | inr more ↦ (let few = more.0 in inr (inr (omega arith, more.1)))
      ]
    ]

-- no informational response follows where a frame stands, unless all that are passed over were
stops : (n : ℕ) (mid : List ℕ) (frame : ResponseFrame) → IsLast n mid frame → n < 16 → Informs mid → ⊥
stops n mid no_response last few x = nothing_begins x.0 x.1 (subst (λ (z : List ℕ). IsResponse z x.0 x.1) last x.2)
stops n mid (response r rest) last few x =
    let same = ap (λ (z : SeenResponse). is_informational z.status) (one_response mid r x.0 rest x.1 last.0 x.2).0 in
    cc (same, last.1, x.3)
stops n mid (response_refusal fault) (inl refused) few x = response_or_refused mid x.0 x.1 fault x.2 refused
stops n mid (response_refusal fault) (inr many) few x = let all = many.all_passed in omega arith

not_informational : (n : ℕ) (mid : List ℕ) (r : SeenResponse) (rest : List ℕ) (fault : FrameFault) → IsLast n mid (response r rest) → IsOneTooMany n mid fault → ⊥
not_informational n mid r rest fault last many =
    let same = ap (λ (z : SeenResponse). is_informational z.status) (one_response mid r many.another rest many.after last.0 many.is_response).0 in
    cc (same, last.1, many.informational)

-- one frame stands at a place
one_last : (n : ℕ) (mid : List ℕ) (x y : ResponseFrame) → IsLast n mid x → IsLast n mid y → x ≡ y
one_last n mid no_response no_response p q = refl
one_last n mid no_response (response r rest) p q = absurd (nothing_begins r rest (subst (λ (z : List ℕ). IsResponse z r rest) p q.0))
one_last n mid no_response (response_refusal fault) p (inl q) = absurd (nothing_refused fault (subst (λ (z : List ℕ). IsResponseRefused z fault) p q))
one_last n mid no_response (response_refusal fault) p (inr q) =
    absurd (nothing_begins q.another q.after (subst (λ (z : List ℕ). IsResponse z q.another q.after) p q.is_response))
one_last n mid (response r rest) no_response p q = absurd (nothing_begins r rest (subst (λ (z : List ℕ). IsResponse z r rest) q p.0))
one_last n mid (response r rest) (response r' rest') p q = let same = one_response mid r r' rest rest' p.0 q.0 in ap₂ response same.0 same.1
one_last n mid (response r rest) (response_refusal fault) p (inl q) = absurd (response_or_refused mid r rest fault p.0 q)
one_last n mid (response r rest) (response_refusal fault) p (inr q) = absurd (not_informational n mid r rest fault p q)
one_last n mid (response_refusal fault) no_response (inl p) q = absurd (nothing_refused fault (subst (λ (z : List ℕ). IsResponseRefused z fault) q p))
one_last n mid (response_refusal fault) no_response (inr p) q =
    absurd (nothing_begins p.another p.after (subst (λ (z : List ℕ). IsResponse z p.another p.after) q p.is_response))
one_last n mid (response_refusal fault) (response r rest) (inl p) q = absurd (response_or_refused mid r rest fault q.0 p)
one_last n mid (response_refusal fault) (response r rest) (inr p) q = absurd (not_informational n mid r rest fault q p)
one_last n mid (response_refusal fault) (response_refusal fault') (inl p) (inl q) = ap response_refusal (one_fault mid fault fault' p q)
one_last n mid (response_refusal fault) (response_refusal fault') (inl p) (inr q) = absurd (response_or_refused mid q.another q.after fault q.is_response p)
one_last n mid (response_refusal fault) (response_refusal fault') (inr p) (inl q) = absurd (response_or_refused mid p.another p.after fault' p.is_response q)
one_last n mid (response_refusal fault) (response_refusal fault') (inr p) (inr q) = ap response_refusal (p.fault_is ∙ sym q.fault_is)

pub one_response_frame : (b : List ℕ) (x y : ResponseFrame) → IsResponseFrame b x → IsResponseFrame b y → x ≡ y
one_response_frame b x y p q =
    let few = p.few in
    let few' = q.few in
    elim (compare p.passed q.passed b p.mid q.mid p.passes q.passes) [
      | inl same ↦ one_last p.passed p.mid x y p.last
          (subst (λ (n : ℕ). IsLast n p.mid y) (sym same.0) (subst (λ (z : List ℕ). IsLast q.passed z y) (sym same.1) q.last))
      | inr other ↦ elim other [
        | inl less ↦ (let small = less.0 in absurd (stops p.passed p.mid x p.last (omega arith) less.1))
        | inr more ↦ (let small = more.0 in absurd (stops q.passed q.mid y q.last (omega arith) more.1))
      ]
    ]

-- the reader

-- a head of an informational status has no body behind it
bodiless : (head : StatusHead) → is_informational head.status ≡ true → response_framing head ≡ Ok (Sized (Length 0))
bodiless head told = rw told refl

-- such a head is a whole response
pub informs : (mid : List ℕ) (head : StatusHead) (after : List ℕ) → BeginsWithStatus mid head after → is_informational head.status ≡ true
    → IsResponse mid (response_with head.status head.fields []) after
informs mid head after begins told = record {
  head = head;
  after = after;
  begins = begins;
  framed_as = Sized (Length 0);
  framed = bodiless head told;
  body = (refl, refl);
  status_is = refl;
  fields_are = refl;
}

-- nothing was passed over yet
pub passes_nothing : (b : List ℕ) → PassesOver 0 b b
passes_nothing b = passes_none refl refl

-- one more response is passed over
passes_more : (n : ℕ) (b mid : List ℕ) (r : SeenResponse) (after : List ℕ) → PassesOver n b mid → IsResponse mid r after → is_informational r.status ≡ true
    → PassesOver (n + 1) b after
passes_more n b mid r after (passes_none e f) is told = passes_one 0 r after (omega arith) (subst (λ (z : List ℕ). IsResponse z r after) (sym f) is) told (passes_none refl refl)
passes_more n b mid r after (passes_one m first behind e is_first informs_first more) is told =
    passes_one (m + 1) first behind (omega arith) is_first informs_first (passes_more m behind mid r after more is told)

pub passes_head : (n : ℕ) (b mid : List ℕ) (head : StatusHead) (after : List ℕ) → PassesOver n b mid → BeginsWithStatus mid head after
    → is_informational head.status ≡ true → PassesOver (n + 1) b after
passes_head n b mid head after passes begins told =
    passes_more n b mid (response_with head.status head.fields []) after passes (informs mid head after begins told) told

-- a response more than are passed over
pub one_too_many : (n : ℕ) (b mid : List ℕ) (head : StatusHead) (after : List ℕ) → n ≡ 16 → PassesOver n b mid → BeginsWithStatus mid head after
    → is_informational head.status ≡ true → IsResponseFrame b (response_refusal BadHead)
one_too_many n b mid head after all passes begins told = record {
  passed = n;
  mid = mid;
  few = omega arith;
  passes = passes;
  last = inr (record {
    all_passed = all;
    another = response_with head.status head.fields [];
    after = after;
    is_response = informs mid head after begins told;
    informational = told;
    fault_is = refl;
  });
}

-- the stream ended behind informational responses
pub nothing_behind : (n : ℕ) (b mid : List ℕ) → n ≤ 16 → PassesOver n b mid → mid ≡ [] → IsResponseFrame b no_response
nothing_behind n b mid few passes e = record { passed = n; mid = mid; few = few; passes = passes; last = e }

-- no head behind them
pub no_head_behind : (fault : FrameFault) (n : ℕ) (b mid held : List ℕ) (left : Option (List ℕ)) → n ≤ 16 → PassesOver n b mid
    → NextStatus mid held left (Err fault) → NextFinal b held left (Err fault)
no_head_behind ReadFault n b mid held left few passes x = (mid, record { passed = n; few = few; passes = passes }, x.0, x.1)
no_head_behind Memory n b mid held left few passes x = tt
no_head_behind BadHead n b mid held left few passes x =
    record { passed = n; mid = mid; few = few; passes = passes; last = inl (no_status_head refl x.0 x.1) }
no_head_behind BadHost n b mid held left few passes x = absurd x
no_head_behind BadBody n b mid held left few passes x = absurd x
no_head_behind Coding n b mid held left few passes x = absurd x
no_head_behind BodyTooLong n b mid held left few passes x = absurd x
no_head_behind Truncated n b mid held left few passes x = absurd x

-- an informational response stands there whatever follows it
abbrev StandsFirst : List ℕ → SeenResponse → List ℕ → Type 0
StandsFirst b r after = (p : List ℕ) × (b ≡ p ++ after) × ((more : List ℕ) → IsResponse (p ++ more) r more)

nil_of : (xs : List ℕ) → length xs ≡ 0 → xs ≡ []
nil_of [] e = refl
nil_of (x ∷ xs) e = absurd (omega arith)

stands_first : (b : List ℕ) (r : SeenResponse) (after : List ℕ) → IsResponse b r after → is_informational r.status ≡ true → StandsFirst b r after
stands_first b r after x told =
    let head_told : is_informational x.head.status ≡ true = ap is_informational (sym x.status_is) ∙ told in
    let framed = bodiless x.head head_told in
    let f : x.framed_as ≡ Sized (Length 0) = cc (framed, x.framed) in
    let body = subst (λ (f : ResponseFraming). IsResponseBody f x.after r.body after) f x.body in
    let empty = nil_of r.body body.0 in
    let p = print_response x.begins.head in
    let rest : x.after ≡ after = body.1 ∙ ap (λ (z : List ℕ). z ++ after) empty in (
      p,
      x.begins.reads.reads.1 ∙ ap (λ (z : List ℕ). p ++ z) rest,
      λ more. record {
        head = x.head;
        after = more;
        begins = record {
          head = x.begins.head;
          reads = record { reads = (x.begins.reads.reads.0, refl); short = x.begins.reads.short; few = x.begins.reads.few };
          shows = x.begins.shows;
        };
        framed_as = Sized (Length 0);
        framed = framed;
        body = (body.0, ap (λ (z : List ℕ). z ++ more) (sym empty));
        status_is = x.status_is;
        fields_are = x.fields_are;
      },
    )

-- what is passed over is, whatever follows it
passed_front : (n : ℕ) (b mid : List ℕ) → PassesOver n b mid → (front : List ℕ) × (b ≡ front ++ mid) × ((more : List ℕ) → PassesOver n (front ++ more) more)
passed_front n b mid (passes_none e f) = ([], f, λ more. passes_none e refl)
passed_front n b mid (passes_one m r after e is told more) =
    let first = stands_first b r after is told in
    let second = passed_front m after mid more in (
      first.0 ++ second.0,
      first.1 ∙ ap (λ (z : List ℕ). first.0 ++ z) second.1 ∙ sym (append_assoc first.0 second.0 mid),
      λ rest. subst (λ (z : List ℕ). PassesOver n z rest) (sym (append_assoc first.0 second.0 rest))
          (passes_one m r (second.0 ++ rest) e (first.2 (second.0 ++ rest)) told (second.2 rest)),
    )

-- the stream was cut off where these bytes of what is behind were taken
cut_behind : (b mid taken : List ℕ) (left : Option (List ℕ)) → StandsBehind b mid → IsTaken taken mid left
    → ((whole : List ℕ) → StandsBehind whole taken → IsResponseCutOff whole) → NextResponse b [] left (Err ReadFault)
cut_behind b mid taken left behind t cut =
    let front = passed_front behind.passed b mid behind.passes in
    let whole = front.0 ++ taken in (
      whole,
      (t.0, t.1, front.1 ∙ ap (λ (z : List ℕ). front.0 ++ z) t.2 ∙ sym (append_assoc front.0 taken t.0)),
      cut whole (record { passed = behind.passed; few = behind.few; passes = front.2 taken }),
    )

-- the answer on the head is that on the response, where there is none
pub head_is_response : (fault : FrameFault) (b held : List ℕ) (left : Option (List ℕ)) → NextFinal b held left (Err fault) → NextResponse b held left (Err fault)
head_is_response ReadFault b held left x =
    cut_behind b x.0 held left x.1 x.2 (λ whole behind. record { mid = held; behind = behind; inside = inl x.3 })
head_is_response Memory b held left x = tt
head_is_response BadHead b held left x = x
head_is_response BadHost b held left x = x
head_is_response BadBody b held left x = x
head_is_response Coding b held left x = x
head_is_response BodyTooLong b held left x = x
head_is_response Truncated b held left x = x

-- a head, and then the response of it
pub body_is_response : (r : SeenResponse) (b held held' : List ℕ) (left left' : Option (List ℕ)) (head : StatusHead)
    → NextFinal b held left (Ok (Some head)) → ((mid : List ℕ) → IsStream held left mid → ResponseBehind head mid held' left' (Ok r))
    → NextResponse b held' left' (Ok (Some r))
body_is_response r b held held' left left' head first second =
    let body = second first.3 first.5 in
    let behind = first.1 in (
      body.4.0,
      record {
        passed = behind.passed;
        mid = first.0;
        few = behind.few;
        passes = behind.passes;
        last = (
          record {
            head = head;
            after = first.3;
            begins = first.4;
            framed_as = body.2;
            framed = body.3;
            body = body.4.1;
            status_is = body.0;
            fields_are = body.1;
          },
          ap is_informational body.0 ∙ first.2,
        );
      },
      body.4.2,
    )

refused_at : (b mid held : List ℕ) (left : Option (List ℕ)) (fault : FrameFault) → StandsBehind b mid → IsResponseRefused mid fault
    → IsResponseFrame b (response_refusal fault)
refused_at b mid held left fault behind refused =
    record { passed = behind.passed; mid = mid; few = behind.few; passes = behind.passes; last = inl refused }

-- a fault that the head shows
shown_response : (fault : FrameFault) (b mid held : List ℕ) (left : Option (List ℕ)) → IsShown fault → StandsBehind b mid → IsResponseRefused mid fault
    → NextResponse b held left (Err fault)
shown_response BadHost b mid held left shown behind refused = refused_at b mid held left BadHost behind refused
shown_response BadBody b mid held left shown behind refused = refused_at b mid held left BadBody behind refused
shown_response Coding b mid held left shown behind refused = refused_at b mid held left Coding behind refused
shown_response BodyTooLong b mid held left shown behind refused = refused_at b mid held left BodyTooLong behind refused
shown_response BadHead b mid held left shown behind refused = absurd shown
shown_response Truncated b mid held left shown behind refused = absurd shown
shown_response ReadFault b mid held left shown behind refused = absurd shown
shown_response Memory b mid held left shown behind refused = absurd shown

-- a refusal of the body behind a head without a fault
refused_body : (fault : FrameFault) (b mid after held : List ℕ) (left : Option (List ℕ)) (head : StatusHead) (f : ResponseFraming) → StandsBehind b mid
    → BeginsWithStatus mid head after → response_framing head ≡ Ok f → TakesResponseBody f after held left (Err fault) → NextResponse b held left (Err fault)
refused_body ReadFault b mid after held left head f behind begins framed x =
    let p = print_response begins.head in
    let taken = p ++ x.0 in
    let begins' : BeginsWithStatus taken head x.0 = record {
      head = begins.head;
      reads = record { reads = (begins.reads.reads.0, refl); short = begins.reads.short; few = begins.reads.few };
      shows = begins.shows;
    } in
    let t : IsTaken taken mid left =
    (x.1.0, x.1.1, begins.reads.reads.1 ∙ ap (λ (z : List ℕ). p ++ z) x.1.2 ∙ sym (append_assoc p x.0 x.1.0)) in
    cut_behind b mid taken left behind t (λ whole at. record { mid = taken; behind = at; inside = inr (head, x.0, f, begins', framed, x.2) })
refused_body Memory b mid after held left head f behind begins framed x = tt
refused_body BadHead b mid after held left head f behind begins framed x = refused_at b mid held left BadHead behind (bad_response_body head after f begins framed x)
refused_body BadHost b mid after held left head f behind begins framed x = refused_at b mid held left BadHost behind (bad_response_body head after f begins framed x)
refused_body BadBody b mid after held left head f behind begins framed x = refused_at b mid held left BadBody behind (bad_response_body head after f begins framed x)
refused_body Coding b mid after held left head f behind begins framed x = refused_at b mid held left Coding behind (bad_response_body head after f begins framed x)
refused_body BodyTooLong b mid after held left head f behind begins framed x = refused_at b mid held left BodyTooLong behind (bad_response_body head after f begins framed x)
refused_body Truncated b mid after held left head f behind begins framed x = refused_at b mid held left Truncated behind (bad_response_body head after f begins framed x)

pub refusal_is_response : (fault : FrameFault) (b held held' : List ℕ) (left left' : Option (List ℕ)) (head : StatusHead)
    → NextFinal b held left (Ok (Some head)) → ((mid : List ℕ) → IsStream held left mid → ResponseBehind head mid held' left' (Err fault))
    → NextResponse b held' left' (Err fault)
refusal_is_response fault b held held' left left' head first second =
    elim (second first.3 first.5) [
      | inl shown ↦ shown_response fault b first.0 held' left' shown.1 first.1 (bad_status_head head first.3 first.4 shown.0)
      | inr body ↦ refused_body fault b first.0 first.3 held' left' head body.0 first.1 first.4 body.1 body.2
    ]
