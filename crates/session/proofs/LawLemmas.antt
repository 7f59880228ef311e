-- Where the frames of a stream are one, the sessions over it end alike.
use Rattle.std.proofs.Common.{◌≡◌, ℕ, zero, suc, ◌+◌, ◌≤◌, ◌<◌, Bool, true, false, true≢false, IsTrue, List, [], ◌∷◌, length, Option, ap, sym, subst, ◌∙◌, refl, arith}
use Rattle.journal.specs.declared.entry.Mark.{Mark}
use Rattle.http_frame.specs.Frames.{nothing, request, refusal, IsRequest, IsRefused}
use Rattle.http_frame.specs.Laws.{OneFrame}
use Rattle.http_frame.specs.Messages.{SeenRequest}
use Rattle.http_frame.specs.declared.fault.FrameFault.{FrameFault}
use Rattle.session.specs.Ends.{Ends}
use Rattle.session.specs.Laws.{AreRequests, is_sound, SoundSessionsEndAlike, WholeStreamsEndDone}
use Rattle.session.specs.Turns.{Ground, Turns}
use Rattle.session.specs.declared.report.SessionEnd.{SessionEnd}
use Rattle.session.specs.declared.report.SessionEnd.TheVariants.{Done, Refused, ReadFault, WriteFault, Limit, Memory}
use Rattle.session.specs.declared.report.Turn.{Turn}

-- One frame

no_request : OneFrame → (b : List ℕ) (r : SeenRequest) (rest : List ℕ) → b ≡ [] → IsRequest b r rest → ⊥
no_request one b r rest none is = let e = one b nothing (request r rest) none is in cc

no_refusal : OneFrame → (b : List ℕ) (fault : FrameFault) → b ≡ [] → IsRefused b fault → ⊥
no_refusal one b fault none is = let e = one b nothing (refusal fault) none is in cc

not_both : OneFrame → (b : List ℕ) (r : SeenRequest) (rest : List ℕ) (fault : FrameFault) → IsRequest b r rest → IsRefused b fault → ⊥
not_both one b r rest fault is bad = let e = one b (request r rest) (refusal fault) is bad in cc

pub same_request : OneFrame → (b : List ℕ) (r r' : SeenRequest) (rest rest' : List ℕ) → IsRequest b r rest → IsRequest b r' rest' → (r ≡ r') × (rest ≡ rest')
same_request one b r r' rest rest' is is' = let e = one b (request r rest) (request r' rest') is is' in (cc, cc)

-- The end behind so many turns, which neither a fault nor want of memory made

pub data Stop (closed : Bool) (n : ℕ) (rest : List ℕ) (end : SessionEnd) : Type 0 where
  closing : end ≡ Done → closed ≡ true → n ≤ 100000 → Stop closed n rest end
  at_end : end ≡ Done → closed ≡ false → n < 100000 → rest ≡ [] → Stop closed n rest end
  refusing : (fault : FrameFault) → end ≡ Refused → closed ≡ false → n < 100000 → IsRefused rest fault → Stop closed n rest end
  at_limit : end ≡ Limit → closed ≡ false → n ≡ 100000 → Stop closed n rest end

pub stop_of : (turns : List Turn) (body : List ℕ) (closed : Bool) (rest : List ℕ) (left : Option (List ℕ)) (end : SessionEnd) (text : List ℕ) → IsTrue (is_sound end)
    → Ends turns body closed rest left end text → Stop closed (length turns) rest end
stop_of turns body true rest left Done text s e = closing refl refl e.1
stop_of turns body false rest left Done text s e = at_end refl refl e.1 e.2
stop_of turns body true rest left Limit text s e = at_limit refl e.1 e.2
stop_of turns body false rest left Limit text s e = at_limit refl e.1 e.2
stop_of turns body true rest left Refused text s e = refusing e.3.0 refl e.0 e.1 e.3.1
stop_of turns body false rest left Refused text s e = refusing e.3.0 refl e.0 e.1 e.3.1
stop_of turns body closed rest left ReadFault text s e = absurd (true≢false (sym s))
stop_of turns body closed rest left WriteFault text s e = absurd (true≢false (sym s))
stop_of turns body closed rest left Memory text s e = absurd (true≢false (sym s))

pub most : (closed : Bool) (n : ℕ) (rest : List ℕ) (end : SessionEnd) → Stop closed n rest end → n ≤ 100000
most closed n rest end (closing e c few) = few
most closed n rest end (at_end e c few none) = omega (arith, few)
most closed n rest end (refusing fault e c few bad) = omega (arith, few)
most closed n rest end (at_limit e c full) = omega (arith, full)

-- where a request follows, the session is not over
pub goes_on : OneFrame → (n : ℕ) (b : List ℕ) (end : SessionEnd) (r : SeenRequest) (rest : List ℕ) → IsRequest b r rest → n < 100000 → Stop false n b end → ⊥
goes_on one n b end r rest is few (closing e c f) = true≢false (sym c)
goes_on one n b end r rest is few (at_end e c f none) = no_request one b r rest none is
goes_on one n b end r rest is few (refusing fault e c f bad) = not_both one b r rest fault is bad
goes_on one n b end r rest is few (at_limit e c full) = absurd (omega (arith, few, full))

same_end : OneFrame → (closed : Bool) (n : ℕ) (b : List ℕ) (end end' : SessionEnd) → Stop closed n b end → Stop closed n b end' → end ≡ end'
same_end one closed n b end end' (closing e c f) (closing e' c' f') = e ∙ sym e'
same_end one closed n b end end' (closing e c f) (at_end e' c' f' none) = e ∙ sym e'
same_end one closed n b end end' (closing e c f) (refusing fault e' c' f' bad) = absurd (true≢false (sym c ∙ c'))
same_end one closed n b end end' (closing e c f) (at_limit e' c' full) = absurd (true≢false (sym c ∙ c'))
same_end one closed n b end end' (at_end e c f none) (closing e' c' f') = e ∙ sym e'
same_end one closed n b end end' (at_end e c f none) (at_end e' c' f' none') = e ∙ sym e'
same_end one closed n b end end' (at_end e c f none) (refusing fault e' c' f' bad) = absurd (no_refusal one b fault none bad)
same_end one closed n b end end' (at_end e c f none) (at_limit e' c' full) = absurd (omega (arith, f, full))
same_end one closed n b end end' (refusing fault e c f bad) (closing e' c' f') = absurd (true≢false (sym c' ∙ c))
same_end one closed n b end end' (refusing fault e c f bad) (at_end e' c' f' none) = absurd (no_refusal one b fault none bad)
same_end one closed n b end end' (refusing fault e c f bad) (refusing fault' e' c' f' bad') = e ∙ sym e'
same_end one closed n b end end' (refusing fault e c f bad) (at_limit e' c' full) = absurd (omega (arith, f, full))
same_end one closed n b end end' (at_limit e c full) (closing e' c' f') = absurd (true≢false (sym c' ∙ c))
same_end one closed n b end end' (at_limit e c full) (at_end e' c' f' none) = absurd (omega (arith, f', full))
same_end one closed n b end end' (at_limit e c full) (refusing fault e' c' f' bad) = absurd (omega (arith, f', full))
same_end one closed n b end end' (at_limit e c full) (at_limit e' c' full') = e ∙ sym e'

-- the same end by other words for the closing, the number of turns and the rest
pub said : (closed closed' : Bool) (n n' : ℕ) (b b' : List ℕ) (end : SessionEnd) → closed ≡ closed' → n ≡ n' → b ≡ b' → Stop closed n b end → Stop closed' n' b' end
said closed closed' n n' b b' end c e r s = subst (λ (x : Bool). Stop x n' b' end) c (subst (λ (x : ℕ). Stop closed x b' end) e (subst (λ (x : List ℕ). Stop closed n x end) r s))

-- Two sessions

ends_alike : OneFrame → (g g' : Ground) (n : ℕ) (was : Bool) (b : List ℕ) (ts ts' : List Turn) (marks marks' : List Mark) (text text' : List ℕ) (closed closed' : Bool)
    (rest rest' : List ℕ) (end end' : SessionEnd) → Turns g was b ts marks text closed rest → Turns g' was b ts' marks' text' closed' rest'
    → Stop closed (n + length ts) rest end → Stop closed' (n + length ts') rest' end' → (end ≡ end') × (length ts ≡ length ts')
ends_alike one g g' n was b [] [] marks marks' text text' closed closed' rest rest' end end' x y s s' = (
  same_end one was n b end end' (said _ _ _ _ _ _ end x.2 (omega arith) x.3 s) (said _ _ _ _ _ _ end' y.2 (omega arith) y.3 s'),
  refl,
)
ends_alike one g g' n was b [] (t' ∷ ts') marks marks' text text' closed closed' rest rest' end end' x y s s' =
    let few = most _ _ _ _ s' in
    absurd (goes_on one n b end y.1.request y.1.rest y.1.is_request (omega (arith, few)) (said _ _ _ _ _ _ end (x.2 ∙ y.0) (omega arith) x.3 s))
ends_alike one g g' n was b (t ∷ ts) [] marks marks' text text' closed closed' rest rest' end end' x y s s' =
    let few = most _ _ _ _ s in
    absurd (goes_on one n b end' x.1.request x.1.rest x.1.is_request (omega (arith, few)) (said _ _ _ _ _ _ end' (y.2 ∙ x.0) (omega arith) y.3 s'))
ends_alike one g g' n was b (t ∷ ts) (t' ∷ ts') marks marks' text text' closed closed' rest rest' end end' x y s s' =
    let same = same_request one b y.1.request x.1.request y.1.rest x.1.rest y.1.is_request x.1.is_request in
    let behind = subst (λ (r : SeenRequest). Turns g' r.head.closes x.1.rest ts' y.2 y.3 closed' rest') same.0
    (subst (λ (z : List ℕ). Turns g' y.1.request.head.closes z ts' y.2 y.3 closed' rest') same.1 y.7) in
    let it = ends_alike one g g' (suc n) x.1.request.head.closes x.1.rest ts ts' x.2 y.2 x.3 y.3 closed closed' rest rest' end end' x.7 behind
    (said closed closed _ _ rest rest end refl (omega arith) refl s) (said closed' closed' _ _ rest' rest' end' refl (omega arith) refl s') in
    (it.0, ap suc it.1)

pub sound_sessions_end_alike : OneFrame → SoundSessionsEndAlike
sound_sessions_end_alike one = λ g g' b left left' end end' turns turns' marks marks' text text' s s' x y.
    ends_alike one g g' 0 false b turns turns' marks marks' x.body y.body x.closed y.closed x.rest y.rest end end' x.all y.all
    (said _ _ _ _ _ _ end refl (omega arith) refl (stop_of turns x.body x.closed x.rest left end text s x.ends))
    (said _ _ _ _ _ _ end' refl (omega arith) refl (stop_of turns' y.body y.closed y.rest left' end' text' s' y.ends))

-- A list of requests

at_none : OneFrame → (n : ℕ) (b : List ℕ) → b ≡ [] → AreRequests n b → n ≡ 0
at_none one zero b none all = refl
at_none one (suc n) b none all = absurd (no_request one b all.0 all.1 none all.2)

at_refusal : OneFrame → (n : ℕ) (b : List ℕ) (fault : FrameFault) → IsRefused b fault → AreRequests n b → ⊥
at_refusal one zero b fault bad all = no_refusal one b fault all bad
at_refusal one (suc n) b fault bad all = not_both one b all.0 all.1 fault all.2 bad

done_at : OneFrame → (n m : ℕ) (was : Bool) (b : List ℕ) (end : SessionEnd) → AreRequests n b → (was ≡ true → n ≡ 0) → m + n < 100000 → Stop was m b end → (end ≡ Done) × (0 ≡ n)
done_at one n m was b end all last few (closing e c f) = (e, sym (last c))
done_at one n m was b end all last few (at_end e c f none) = (e, sym (at_none one n b none all))
done_at one n m was b end all last few (refusing fault e c f bad) = absurd (at_refusal one n b fault bad all)
done_at one n m was b end all last few (at_limit e c full) = absurd (omega (arith, few, full))

whole : OneFrame → (g : Ground) (n m : ℕ) (was : Bool) (b : List ℕ) (ts : List Turn) (marks : List Mark) (text : List ℕ) (closed : Bool) (rest : List ℕ) (end : SessionEnd)
    → AreRequests n b → (was ≡ true → n ≡ 0) → m + n < 100000 → Turns g was b ts marks text closed rest → Stop closed (m + length ts) rest end → (end ≡ Done) × (length ts ≡ n)
whole one g n m was b [] marks text closed rest end all last few x s = done_at one n m was b end all last few (said _ _ _ _ _ _ end x.2 (omega arith) x.3 s)
whole one g zero m was b (t ∷ ts) marks text closed rest end all last few x s = absurd (no_request one b x.1.request x.1.rest all x.1.is_request)
whole one g (suc n) m was b (t ∷ ts) marks text closed rest end all last few x s =
    let same = same_request one b x.1.request all.0 x.1.rest all.1 x.1.is_request all.2 in
    let closes : x.1.request.head.closes ≡ (all.0).head.closes = ap (λ (r : SeenRequest). r.head.closes) same.0 in
    let it = whole one g n (suc m) x.1.request.head.closes x.1.rest ts x.2 x.3 closed rest end (subst (AreRequests n) (sym same.1) all.4)
    (λ c. all.3 (sym closes ∙ c)) (omega (arith, few)) x.7 (said closed closed _ _ rest rest end refl (omega arith) refl s) in
    (it.0, ap suc it.1)

pub whole_streams_end_done : OneFrame → WholeStreamsEndDone
whole_streams_end_done one = λ g n b left end turns marks text all few s x.
    whole one g n 0 false b turns marks x.body x.closed x.rest end all (λ c. absurd (true≢false (sym c))) (omega (arith, few)) x.all
    (said _ _ _ _ _ _ end refl (omega arith) refl (stop_of turns x.body x.closed x.rest left end text s x.ends))
