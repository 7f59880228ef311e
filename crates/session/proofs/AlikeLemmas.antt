-- Two undisturbed sessions over the same bytes, from the same journals, are alike.
use Rattle.std.proofs.Common.{◌≡◌, ℕ, zero, suc, ◌+◌, ◌≤◌, ◌<◌, Bool, true, false, true≢false, IsTrue, List, [], ◌∷◌, ◌++◌, length, map, Option, Some, Ok, Err, refl, sym, ◌∙◌, ap, subst, length-append, arith}
use Rattle.std.specs.List.{list_all}
use Rattle.std.proofs.lemmas.List.{same_from_push}
use Rattle.std.proofs.lemmas.Option.{same_Some}
use Rattle.std.proofs.lemmas.Str.{encodes_same}
use Rattle.httparse.specs.Grammar.{RequestHead}
use Rattle.httparse.proofs.GrammarLemmas.{request_unique}
use Rattle.journal.specs.declared.entry.Entry.{Entry}
use Rattle.journal.specs.declared.entry.Mark.{Mark}
use Rattle.journal.specs.declared.limits.Limits.{Limits}
use Rattle.journal.specs.declared.reply.Reply.{Reply}
use Rattle.journal.specs.Journal.{reply_at}
use Rattle.journal.specs.Laws.{ReplyReadsNoLaterEntry}
use Rattle.http_frame.specs.Frames.{BeginsWithHead, IsHeadRefused, IsRequest, bad_head, no_head, refusal}
use Rattle.http_frame.specs.Framing.{framing}
use Rattle.http_frame.specs.Heads.{Shows}
use Rattle.http_frame.specs.Laws.{OneFrame}
use Rattle.http_frame.specs.Messages.{SeenRequest, SeenResponse}
use Rattle.http_frame.specs.Wire.{continue_of}
use Rattle.http_frame.specs.declared.fault.FrameFault.{FrameFault}
use Rattle.http_frame.specs.declared.framing.Framing.{Framing}
use Rattle.http_frame.specs.declared.message.Head.{Head}
use Rattle.api_calls.specs.Calls.{entries_of}
use Rattle.api_calls.specs.declared.call.Call.{Call}
use Rattle.api_calls.specs.declared.call.Call.TheVariants.{Protocol, Repositories, On}
use Rattle.api_calls.specs.declared.fault.ApiFault.{ApiFault}
use Rattle.api_replies.specs.Responses.{response, refusal as refusal_of}
use Rattle.repo_api.specs.Calls.{IsCallOf}
use Rattle.repo_api.specs.Laws.{OneCall}
use Rattle.session.specs.Ends.{Ends}
use Rattle.session.specs.Laws.{AreAlike, IsUndisturbed, UndisturbedSessionsAreAlike, found_memory, is_sound}
use Rattle.session.specs.Marks.{Journals, AllGrowBy, GrowsBy, mark_at, places_from, places_in}
use Rattle.session.specs.Refusals.{Asks, IsRefusal, asked, refusal_text, unasked}
use Rattle.session.specs.Turns.{IsAnswer, IsPart, IsReply, IsRight, StandAt, StaysFull, Turns, ground, repo_of, sent}
use Rattle.session.specs.declared.report.Outcome.{Outcome}
use Rattle.session.specs.declared.report.Outcome.TheVariants.{Answered, FormRefused, JournalFull, NoMemory}
use Rattle.session.specs.declared.report.SessionEnd.{SessionEnd}
use Rattle.session.specs.declared.report.SessionEnd.TheVariants.{Done, Refused, ReadFault, WriteFault, Limit, Memory}
use Rattle.session.specs.declared.report.Turn.{Turn}
use Rattle.session.proofs.GrowthLemmas.{all_grew_first, first_true, grew_by_none, grown, last_below, second_true}
use Rattle.session.proofs.LawLemmas.{Stop, goes_on, most, said, same_request, sound_sessions_end_alike, stop_of}

-- The refusal of a frame

abbrev head_with : List ℕ → List ℕ → ℕ → List (List ℕ × List ℕ) → Bool → Bool → Head
head_with method target minor fields expects closes =
    record { method = method; target = target; minor = minor; fields = fields; expects = expects; closes = closes }

one_shown : (h k : RequestHead) (x y : Head) → h ≡ k → Shows h x → Shows k y → x ≡ y
one_shown h k x y e s t =
    let m : x.method ≡ y.method = encodes_same x.method y.method (s.method ∙ ap (λ (z : RequestHead). z.method) e ∙ sym t.method) in
    let u : x.target ≡ y.target = encodes_same x.target y.target (s.target ∙ ap (λ (z : RequestHead). z.target) e ∙ sym t.target) in
    let v : x.minor ≡ y.minor = s.minor ∙ ap (λ (z : RequestHead). z.minor) e ∙ sym t.minor in
    let f : x.fields ≡ y.fields = cc (s.fields, t.fields, e) in
    let w : x.expects ≡ y.expects = cc (s.expects, t.expects, e) in
    let l : x.closes ≡ y.closes = cc (s.closes, t.closes, e) in
    let all : head_with x.method x.target x.minor x.fields x.expects x.closes ≡ head_with y.method y.target y.minor y.fields y.expects y.closes = cc in all

-- a stream begins with one head
one_head : (b : List ℕ) (x y : Head) (a c : List ℕ) → BeginsWithHead b x a → BeginsWithHead b y c → x ≡ y
one_head b x y a c p q = one_shown p.head q.head x y (request_unique b p.head q.head a c p.reads.reads q.reads.reads).0 p.shows q.shows

asked_fault : (b : List ℕ) (head : Head) (after : List ℕ) (f : Framing) (fault : FrameFault) → BeginsWithHead b head after → framing head ≡ Ok f → IsHeadRefused b fault → ⊥
asked_fault b head after f fault begins framed (no_head e some none) = none begins.head after begins.reads
asked_fault b head after f fault begins framed (bad_head other behind begins' bad) = cc (framed, bad, ap framing (one_head b head other after behind begins begins'))

one_asking : (b text text' : List ℕ) → Asks b text → Asks b text' → text ≡ text'
one_asking b text text' (asked head after f begins framed e) (asked head' after' f' begins' framed' e') =
    e ∙ ap continue_of (one_head b head head' after after' begins begins') ∙ sym e'
one_asking b text text' (asked head after f begins framed e) (unasked fault bad e') = absurd (asked_fault b head after f fault begins framed bad)
one_asking b text text' (unasked fault bad e) (asked head after f begins framed e') = absurd (asked_fault b head after f fault begins framed bad)
one_asking b text text' (unasked fault bad e) (unasked fault' bad' e') = e ∙ sym e'

one_refusal : OneFrame → (b text text' : List ℕ) → IsRefusal b text → IsRefusal b text' → text ≡ text'
one_refusal one b text text' x y =
    let frames = one b (refusal x.0) (refusal y.0) x.1 y.1 in
    let same : x.0 ≡ y.0 = cc in
    x.4 ∙ ap (λ (z : List ℕ). z ++ refusal_text x.0) (one_asking b x.2 y.2 x.3 y.3) ∙ ap (λ (z : FrameFault). y.2 ++ refusal_text z) same ∙ sym y.4

-- One reply

at_base : ReplyReadsNoLaterEntry → (limits : Limits) (base new : List Entry) (ks : List ℕ) (k : ℕ) → GrowsBy base new ks → k < length base
    → reply_at limits new k ≡ reply_at limits base k
at_base law limits base new ks k g low = ap (λ (z : List Entry). reply_at limits z k) g.begins ∙ law limits base g.more k low

-- what two turns of the same request, whose entries stand at the same places behind the same journals, have for their replies
record Replied (new new' : Journals) (repo : ℕ) (places places' : List ℕ) : Type 0 where
  base : List Entry
  ks : List ℕ
  ks' : List ℕ
  at : ℕ
  count : ℕ
  grew : GrowsBy base (new repo) ks
  grew' : GrowsBy base (new' repo) ks'
  same : places ≡ places'
  places_are : places ≡ places_from at count
  long : at + count ≡ length base

same_reply : ReplyReadsNoLaterEntry → (names : List (List ℕ)) (limits : Limits) (seats : ℕ → ℕ) (new new' : Journals) (repo : ℕ) (places places' : List ℕ) (x x' : Reply)
    → Replied new new' repo places places' → IsReply (ground names limits new seats) repo places x
    → IsReply (ground names limits new' seats) repo places' x' → x ≡ x'
same_reply law names limits seats new new' repo places places' x x' it r r' =
    let last : r.last ≡ r'.last = (same_from_push r.before r'.before r.last r'.last (sym r.places_are ∙ it.same ∙ r'.places_are)).1 in
    let below = last_below it.at it.count r.before r.last (sym it.places_are ∙ r.places_are) in
    let low : r.last < length it.base = omega (arith, below, it.long) in
    let low' : r'.last < length it.base = omega (arith, low, last) in
    let one = at_base law limits it.base (new repo) it.ks r.last it.grew low in
    let two = at_base law limits it.base (new' repo) it.ks' r'.last it.grew' low' in
    same_Some x x' (sym r.replied ∙ one ∙ ap (λ (k : ℕ). reply_at limits it.base k) last ∙ sym two ∙ r'.replied)

same_answer : ReplyReadsNoLaterEntry → (names : List (List ℕ)) (limits : Limits) (seats : ℕ → ℕ) (new new' : Journals) (repo : ℕ) (places places' : List ℕ) (c : Call)
    (it it' : SeenResponse) → Replied new new' repo places places' → IsAnswer (ground names limits new seats) repo c places it
    → IsAnswer (ground names limits new' seats) repo c places' it' → it ≡ it'
same_answer law names limits seats new new' repo places places' Protocol it it' h x y = x ∙ sym y
same_answer law names limits seats new new' repo places places' (Repositories form) it it' h x y = x ∙ sym y
same_answer law names limits seats new new' repo places places' (On id op form) it it' h x y =
    x.2 ∙ ap (λ (z : Reply). response (On id op form) names z) (same_reply law names limits seats new new' repo places places' x.0 y.0 h x.1 y.1) ∙ sym y.2

-- One turn

-- two turns of the same request are the same, and so are the journals behind them
record Same (new new' : Journals) (later later' : List Mark) (o o' : Outcome) (repo repo' : ℕ) (places places' : List ℕ) (it it' : SeenResponse) : Type 0 where
  outcomes : o ≡ o'
  one_marks : map (mark_at repo) places ≡ map (mark_at repo') places'
  counts : length places ≡ length places'
  answers : it ≡ it'
  after : Journals
  grow : AllGrowBy after new later
  grow' : AllGrowBy after new' later'

same_front : (a b c d : List Entry) → a ++ b ≡ c ++ d → length a ≡ length c → a ≡ c
same_front [] b [] d e n = refl
same_front [] b (y ∷ c) d e n = let no : 0 ≡ suc (length c) = n in absurd (omega (arith, no))
same_front (x ∷ a) b [] d e n = let no : suc (length a) ≡ 0 = n in absurd (omega (arith, no))
same_front (x ∷ a) b (y ∷ c) d e n =
    let all : x ∷ (a ++ b) ≡ y ∷ (c ++ d) = e in
    let first : x ≡ y = cc in
    let behind : a ++ b ≡ c ++ d = cc in
    let lengths : suc (length a) ≡ suc (length c) = n in
    let same = same_front a b c d behind (omega (arith, lengths)) in
    ap (λ (z : Entry). z ∷ a) first ∙ ap (λ (z : List Entry). y ∷ z) same

-- all entries of the call were made in both
both_answered : ReplyReadsNoLaterEntry → (names : List (List ℕ)) (limits : Limits) (seats : ℕ → ℕ) (old new new' : Journals) (repo : ℕ) (c : Call) (places places' : List ℕ)
    (later later' : List Mark) (it it' : SeenResponse) → AllGrowBy old new (map (mark_at repo) places ++ later) → AllGrowBy old new' (map (mark_at repo) places' ++ later')
    → StandAt (new repo) places (entries_of c (seats repo)) → StandAt (new' repo) places' (entries_of c (seats repo))
    → IsAnswer (ground names limits new seats) repo c places it → IsAnswer (ground names limits new' seats) repo c places' it'
    → Same new new' later later' Answered Answered repo repo places places' it it'
both_answered law names limits seats old new new' repo c places places' later later' it it' g g' s s' x y =
    let es = entries_of c (seats repo) in
    let one = all_grew_first old new repo places es later g s in
    let two = all_grew_first old new' repo places' es later' g' s' in
    let same : places ≡ places' = one.0 ∙ sym two.0 in
    record {
      outcomes = refl;
      one_marks = ap (map (mark_at repo)) same;
      counts = ap length same;
      answers = same_answer law names limits seats new new' repo places places' c it it' (record {
        base = old repo ++ es;
        ks = places_in repo later;
        ks' = places_in repo later';
        at = length (old repo);
        count = length es;
        grew = one.1;
        grew' = two.1;
        same = same;
        places_are = one.0;
        long = sym (length-append (old repo) es);
      }) x y;
      after = grown old repo es;
      grow = one.2;
      grow' = two.2;
    }

-- a journal that is full behind the first entries of a call has so many entries
full_length : (limits : Limits) (old new : Journals) (repo : ℕ) (places : List ℕ) (later : List Mark) (made : List Entry)
    → AllGrowBy old new (map (mark_at repo) places ++ later) → StandAt (new repo) places made → places_in repo later ≡ [] → length (new repo) ≡ length (old repo) + length made
full_length limits old new repo places later made g s none =
    let one = all_grew_first old new repo places made later g s in
    let still = grew_by_none (old repo ++ made) (new repo) (subst (λ (z : List ℕ). GrowsBy (old repo ++ made) (new repo) z) none one.1) in
    ap length still ∙ length-append (old repo) made

-- the journal was full in both
both_full : (names : List (List ℕ)) (limits : Limits) (seats : ℕ → ℕ) (old new new' : Journals) (repo : ℕ) (c : Call) (places places' : List ℕ) (later later' : List Mark)
    (it it' : SeenResponse) (left left' : List Entry) → AllGrowBy old new (map (mark_at repo) places ++ later) → AllGrowBy old new' (map (mark_at repo) places' ++ later')
    → IsPart (ground names limits new seats) repo c places left → IsPart (ground names limits new' seats) repo c places' left' → length (new repo) ≡ limits.places
    → length (new' repo) ≡ limits.places → places_in repo later ≡ [] → places_in repo later' ≡ [] → it ≡ it'
    → Same new new' later later' JournalFull JournalFull repo repo places places' it it'
both_full names limits seats old new new' repo c places places' later later' it it' left left' g g' p p' n n' none none' e =
    let m = full_length limits old new repo places later p.made g p.stand none in
    let m' = full_length limits old new' repo places' later' p'.made g' p'.stand none' in
    let made : p.made ≡ p'.made = same_front p.made left p'.made left' (sym p.parts ∙ p'.parts) (omega (arith, m, m', n, n')) in
    let one = all_grew_first old new repo places p.made later g p.stand in
    let two = all_grew_first old new' repo places' p.made later' g' (subst (λ (z : List Entry). StandAt (new' repo) places' z) (sym made) p'.stand) in
    let same : places ≡ places' = one.0 ∙ sym two.0 in
    record {
      outcomes = refl;
      one_marks = ap (map (mark_at repo)) same;
      counts = ap length same;
      answers = e;
      after = grown old repo p.made;
      grow = one.2;
      grow' = two.2;
    }

-- where all entries of a call were made, its first ones didn't fill the journal
not_full : (names : List (List ℕ)) (limits : Limits) (seats : ℕ → ℕ) (old new new' : Journals) (repo : ℕ) (c : Call) (places places' : List ℕ) (later later' : List Mark)
    (left' : List Entry) → AllGrowBy old new (map (mark_at repo) places ++ later) → AllGrowBy old new' (map (mark_at repo) places' ++ later')
    → StandAt (new repo) places (entries_of c (seats repo)) → IsPart (ground names limits new' seats) repo c places' left' → 0 < length left' → length (new repo) ≤ limits.places
    → limits.places ≤ length (new' repo) → places_in repo later' ≡ [] → ⊥
not_full names limits seats old new new' repo c places places' later later' left' g g' s p' some room full none' =
    let es = entries_of c (seats repo) in
    let one = all_grew_first old new repo places es later g s in
    let m' = full_length limits old new' repo places' later' p'.made g' p'.stand none' in
    let long : length (new repo) ≡ length (old repo ++ es) + length one.1.more = ap length one.1.begins ∙ length-append (old repo ++ es) one.1.more in
    let all : length es ≡ length p'.made + length left' = ap length p'.parts ∙ length-append p'.made left' in
    omega (arith, m', long, length-append (old repo) es, all, some, room, full)

same_call : OneCall → (r : SeenRequest) (names : List (List ℕ)) (c c' : Call) → IsCallOf r names (Ok c) → IsCallOf r names (Ok c') → c' ≡ c
same_call one r names c c' x y = let e = one r names (Ok c') (Ok c) y x in cc

no_fault : OneCall → (r : SeenRequest) (names : List (List ℕ)) (c : Call) (fault : ApiFault) → IsCallOf r names (Ok c) → IsCallOf r names (Err fault) → ⊥
no_fault one r names c fault x y = let e = one r names (Ok c) (Err fault) x y in cc

moved : (P : Call → ℕ → Type 0) (c c' : Call) (repo repo' : ℕ) → c' ≡ c → repo' ≡ repo → P c' repo' → P c repo
moved P c c' repo repo' e n x = subst (λ (z : Call). P z repo) e (subst (P c') n x)

-- the repositories of two turns of the same call
one_repo : (names : List (List ℕ)) (c c' : Call) (repo repo' : ℕ) → c' ≡ c → repo ≡ repo_of names c → repo' ≡ repo_of names c' → repo' ≡ repo
one_repo names c c' repo repo' e n n' = n' ∙ ap (repo_of names) e ∙ sym n

same_right : OneCall → ReplyReadsNoLaterEntry → (names : List (List ℕ)) (limits : Limits) (seats : ℕ → ℕ) (old new new' : Journals) (r : SeenRequest) (o o' : Outcome)
    (repo repo' : ℕ) (places places' : List ℕ) (later later' : List Mark) (it it' : SeenResponse) → IsTrue (found_memory o) → IsTrue (found_memory o')
    → AllGrowBy old new (map (mark_at repo) places ++ later) → AllGrowBy old new' (map (mark_at repo') places' ++ later')
    → ((j : ℕ) → length (new j) ≤ limits.places) → ((j : ℕ) → length (new' j) ≤ limits.places) → StaysFull o repo later → StaysFull o' repo' later'
    → IsRight (ground names limits new seats) r repo o places it → IsRight (ground names limits new' seats) r repo' o' places' it'
    → Same new new' later later' o o' repo repo' places places' it it'
same_right one law names limits seats old new new' r FormRefused FormRefused repo repo' places places' later later' it it' f f' g g' room room' stays stays' x y =
    let faults = one r names (Err x.0) (Err y.0) x.1 y.1 in
    let same : x.0 ≡ y.0 = cc in
    record {
      outcomes = refl;
      one_marks = ap (map (mark_at repo)) x.2 ∙ sym (ap (map (mark_at repo')) y.2);
      counts = ap length x.2 ∙ sym (ap length y.2);
      answers = x.3 ∙ ap refusal_of same ∙ sym y.3;
      after = old;
      grow = subst (λ (z : List ℕ). AllGrowBy old new (map (mark_at repo) z ++ later)) x.2 g;
      grow' = subst (λ (z : List ℕ). AllGrowBy old new' (map (mark_at repo') z ++ later')) y.2 g';
    }
same_right one law names limits seats old new new' r FormRefused Answered repo repo' places places' later later' it it' f f' g g' room room' stays stays' x y =
    absurd (no_fault one r names y.0 x.0 y.1 x.1)
same_right one law names limits seats old new new' r FormRefused JournalFull repo repo' places places' later later' it it' f f' g g' room room' stays stays' x y =
    absurd (no_fault one r names y.0 x.0 y.1 x.1)
same_right one law names limits seats old new new' r FormRefused NoMemory repo repo' places places' later later' it it' f f' g g' room room' stays stays' x y =
    absurd (true≢false (sym f'))
same_right one law names limits seats old new new' r Answered FormRefused repo repo' places places' later later' it it' f f' g g' room room' stays stays' x y =
    absurd (no_fault one r names x.0 y.0 x.1 y.1)
same_right one law names limits seats old new new' r Answered Answered repo repo' places places' later later' it it' f f' g g' room room' stays stays' x y =
    let c = same_call one r names x.0 y.0 x.1 y.1 in
    let n = one_repo names x.0 y.0 repo repo' c x.2 y.2 in
    let stand = moved (λ (z : Call) (k : ℕ). StandAt (new' k) places' (entries_of z (seats k))) x.0 y.0 repo repo' c n y.3 in
    let answer = moved (λ (z : Call) (k : ℕ). IsAnswer (ground names limits new' seats) k z places' it') x.0 y.0 repo repo' c n y.4 in
    subst (λ (k : ℕ). Same new new' later later' Answered Answered repo k places places' it it') (sym n)
    (both_answered law names limits seats old new new' repo x.0 places places' later later' it it' g
    (subst (λ (k : ℕ). AllGrowBy old new' (map (mark_at k) places' ++ later')) n g') x.3 stand x.4 answer)
same_right one law names limits seats old new new' r Answered JournalFull repo repo' places places' later later' it it' f f' g g' room room' stays stays' x y =
    let c = same_call one r names x.0 y.0 x.1 y.1 in
    let n = one_repo names x.0 y.0 repo repo' c x.2 y.2 in
    absurd (not_full names limits seats old new new' repo x.0 places places' later later' y.3 g
    (subst (λ (k : ℕ). AllGrowBy old new' (map (mark_at k) places' ++ later')) n g') x.3
    (moved (λ (z : Call) (k : ℕ). IsPart (ground names limits new' seats) k z places' y.3) x.0 y.0 repo repo' c n y.4) y.5 (room repo)
    (subst (λ (k : ℕ). limits.places ≤ length (new' k)) n y.6) (subst (λ (k : ℕ). places_in k later' ≡ []) n stays'))
same_right one law names limits seats old new new' r Answered NoMemory repo repo' places places' later later' it it' f f' g g' room room' stays stays' x y =
    absurd (true≢false (sym f'))
same_right one law names limits seats old new new' r JournalFull FormRefused repo repo' places places' later later' it it' f f' g g' room room' stays stays' x y =
    absurd (no_fault one r names x.0 y.0 x.1 y.1)
same_right one law names limits seats old new new' r JournalFull Answered repo repo' places places' later later' it it' f f' g g' room room' stays stays' x y =
    let c = same_call one r names y.0 x.0 y.1 x.1 in
    let n = one_repo names y.0 x.0 repo' repo c y.2 x.2 in
    absurd (not_full names limits seats old new' new repo' y.0 places' places later' later x.3 g'
    (subst (λ (k : ℕ). AllGrowBy old new (map (mark_at k) places ++ later)) n g) y.3
    (moved (λ (z : Call) (k : ℕ). IsPart (ground names limits new seats) k z places x.3) y.0 x.0 repo' repo c n x.4) x.5 (room' repo')
    (subst (λ (k : ℕ). limits.places ≤ length (new k)) n x.6) (subst (λ (k : ℕ). places_in k later ≡ []) n stays))
same_right one law names limits seats old new new' r JournalFull JournalFull repo repo' places places' later later' it it' f f' g g' room room' stays stays' x y =
    let c = same_call one r names x.0 y.0 x.1 y.1 in
    let n = one_repo names x.0 y.0 repo repo' c x.2 y.2 in
    let full = x.6 in
    let most = room repo in
    let full' = subst (λ (k : ℕ). limits.places ≤ length (new' k)) n y.6 in
    let most' = room' repo in
    subst (λ (k : ℕ). Same new new' later later' JournalFull JournalFull repo k places places' it it') (sym n)
    (both_full names limits seats old new new' repo x.0 places places' later later' it it' x.3 y.3 g
    (subst (λ (k : ℕ). AllGrowBy old new' (map (mark_at k) places' ++ later')) n g') x.4
    (moved (λ (z : Call) (k : ℕ). IsPart (ground names limits new' seats) k z places' y.3) x.0 y.0 repo repo' c n y.4)
    (omega (arith, full, most)) (omega (arith, full', most')) stays (subst (λ (k : ℕ). places_in k later' ≡ []) n stays') (x.7 ∙ sym y.7))
same_right one law names limits seats old new new' r JournalFull NoMemory repo repo' places places' later later' it it' f f' g g' room room' stays stays' x y =
    absurd (true≢false (sym f'))
same_right one law names limits seats old new new' r NoMemory o' repo repo' places places' later later' it it' f f' g g' room room' stays stays' x y =
    absurd (true≢false (sym f))

-- All turns

abbrev turn_with : ℕ → Outcome → Turn
turn_with marks outcome = record { marks = marks; outcome = outcome }

one_turn : (t t' : Turn) → t.marks ≡ t'.marks → t.outcome ≡ t'.outcome → t ≡ t'
one_turn t t' m o = let all : turn_with t.marks t.outcome ≡ turn_with t'.marks t'.outcome = cc in all

-- no want of memory answered these
abbrev AllFound : List Turn → Type 0
AllFound ts = IsTrue (list_all (λ (t : Turn). found_memory t.outcome) ts)

-- what is the same of the turns of two sessions
record SameTurns (new new' : Journals) (ts ts' : List Turn) (marks marks' : List Mark) (text text' : List ℕ) (rest rest' : List ℕ) : Type 0 where
  all_turns : ts ≡ ts'
  all_marks : marks ≡ marks'
  all_text : text ≡ text'
  all_rest : rest ≡ rest'
  all_journals : (repo : ℕ) → new repo ≡ new' repo

still : (old new : Journals) (marks : List Mark) → AllGrowBy old new marks → marks ≡ [] → (repo : ℕ) → new repo ≡ old repo
still old new marks g e = λ repo. grew_by_none (old repo) (new repo) (subst (λ (z : List Mark). GrowsBy (old repo) (new repo) (places_in repo z)) e (g repo))

same_turns : OneFrame → OneCall → ReplyReadsNoLaterEntry → (names : List (List ℕ)) (limits : Limits) (seats : ℕ → ℕ) (old new new' : Journals) (n : ℕ) (was : Bool)
    (b : List ℕ) (ts ts' : List Turn) (marks marks' : List Mark) (text text' : List ℕ) (closed closed' : Bool) (rest rest' : List ℕ) (end end' : SessionEnd)
    → ((j : ℕ) → length (new j) ≤ limits.places) → ((j : ℕ) → length (new' j) ≤ limits.places)
    → Turns (ground names limits new seats) was b ts marks text closed rest → Turns (ground names limits new' seats) was b ts' marks' text' closed' rest'
    → AllGrowBy old new marks → AllGrowBy old new' marks' → AllFound ts → AllFound ts' → Stop closed (n + length ts) rest end → Stop closed' (n + length ts') rest' end'
    → SameTurns new new' ts ts' marks marks' text text' rest rest'
same_turns one call law names limits seats old new new' n was b [] [] marks marks' text text' closed closed' rest rest' end end' room room' x y g g' f f' s s' = record {
  all_turns = refl;
  all_marks = x.0 ∙ sym y.0;
  all_text = x.1 ∙ sym y.1;
  all_rest = x.3 ∙ sym y.3;
  all_journals = λ repo. still old new marks g x.0 repo ∙ sym (still old new' marks' g' y.0 repo);
}
same_turns one call law names limits seats old new new' n was b [] (t' ∷ ts') marks marks' text text' closed closed' rest rest' end end' room room' x y g g' f f' s s' =
    let few = most _ _ _ _ s' in
    absurd (goes_on one n b end y.1.request y.1.rest y.1.is_request (omega (arith, few)) (said _ _ _ _ _ _ end (x.2 ∙ y.0) (omega arith) x.3 s))
same_turns one call law names limits seats old new new' n was b (t ∷ ts) [] marks marks' text text' closed closed' rest rest' end end' room room' x y g g' f f' s s' =
    let few = most _ _ _ _ s in
    absurd (goes_on one n b end' x.1.request x.1.rest x.1.is_request (omega (arith, few)) (said _ _ _ _ _ _ end' (y.2 ∙ x.0) (omega arith) y.3 s'))
same_turns one call law names limits seats old new new' n was b (t ∷ ts) (t' ∷ ts') marks marks' text text' closed closed' rest rest' end end' room room' x y g g' f f' s s' =
    let same = same_request one b y.1.request x.1.request y.1.rest x.1.rest y.1.is_request x.1.is_request in
    let right' = subst (λ (r : SeenRequest). IsRight (ground names limits new' seats) r y.1.repo t'.outcome y.1.places y.1.answer) same.0 y.1.right in
    let it = same_right call law names limits seats old new new' x.1.request t.outcome t'.outcome x.1.repo y.1.repo x.1.places y.1.places x.2 y.2 x.1.answer y.1.answer
    (first_true (found_memory t.outcome) (list_all (λ (t : Turn). found_memory t.outcome) ts) f)
    (first_true (found_memory t'.outcome) (list_all (λ (t : Turn). found_memory t.outcome) ts') f')
    (subst (AllGrowBy old new) x.4 g) (subst (AllGrowBy old new') y.4 g') room room' x.6 y.6 x.1.right right' in
    let behind = subst (λ (r : SeenRequest). Turns (ground names limits new' seats) r.head.closes x.1.rest ts' y.2 y.3 closed' rest') same.0
    (subst (λ (z : List ℕ). Turns (ground names limits new' seats) y.1.request.head.closes z ts' y.2 y.3 closed' rest') same.1 y.7) in
    let next = same_turns one call law names limits seats it.after new new' (suc n) x.1.request.head.closes x.1.rest ts ts' x.2 y.2 x.3 y.3 closed closed' rest rest' end end'
    room room' x.7 behind it.grow it.grow'
    (second_true (found_memory t.outcome) (list_all (λ (t : Turn). found_memory t.outcome) ts) f)
    (second_true (found_memory t'.outcome) (list_all (λ (t : Turn). found_memory t.outcome) ts') f')
    (said closed closed _ _ rest rest end refl (omega arith) refl s) (said closed' closed' _ _ rest' rest' end' refl (omega arith) refl s') in
    let turn : t ≡ t' = one_turn t t' (x.1.count ∙ it.counts ∙ sym y.1.count) it.outcomes in
    let wrote : continue_of x.1.request.head ++ sent x.1.request.head x.1.answer ≡ continue_of y.1.request.head ++ sent y.1.request.head y.1.answer =
    ap (λ (z : SeenResponse). continue_of x.1.request.head ++ sent x.1.request.head z) it.answers
    ∙ ap (λ (r : SeenRequest). continue_of r.head ++ sent r.head y.1.answer) (sym same.0) in
    record {
      all_turns = ap (λ (z : Turn). z ∷ ts) turn ∙ ap (λ (z : List Turn). t' ∷ z) next.all_turns;
      all_marks = x.4 ∙ ap (λ (z : List Mark). z ++ x.2) it.one_marks ∙ ap (λ (z : List Mark). map (mark_at y.1.repo) y.1.places ++ z) next.all_marks ∙ sym y.4;
      all_text = x.5 ∙ ap (λ (z : List ℕ). z ++ x.3) wrote ∙ ap (λ (z : List ℕ). (continue_of y.1.request.head ++ sent y.1.request.head y.1.answer) ++ z) next.all_text ∙ sym y.5;
      all_rest = next.all_rest;
      all_journals = next.all_journals;
    }

-- The whole text

data Wrote (body rest : List ℕ) (end : SessionEnd) (text : List ℕ) : Type 0 where
  turns_alone : (end ≡ Refused → ⊥) → text ≡ body → Wrote body rest end text
  and_refusal : end ≡ Refused → (tail : List ℕ) → IsRefusal rest tail → text ≡ body ++ tail → Wrote body rest end text

wrote_of : (turns : List Turn) (body : List ℕ) (closed : Bool) (rest : List ℕ) (left : Option (List ℕ)) (end : SessionEnd) (text : List ℕ) → IsTrue (is_sound end)
    → Ends turns body closed rest left end text → Wrote body rest end text
wrote_of turns body true rest left Done text s e = turns_alone (λ no. cc) e.0
wrote_of turns body false rest left Done text s e = turns_alone (λ no. cc) e.0
wrote_of turns body true rest left Limit text s e = turns_alone (λ no. cc) e.0
wrote_of turns body false rest left Limit text s e = turns_alone (λ no. cc) e.0
wrote_of turns body true rest left Refused text s e = and_refusal refl e.2 e.3 e.4
wrote_of turns body false rest left Refused text s e = and_refusal refl e.2 e.3 e.4
wrote_of turns body closed rest left ReadFault text s e = absurd (true≢false (sym s))
wrote_of turns body closed rest left WriteFault text s e = absurd (true≢false (sym s))
wrote_of turns body closed rest left Memory text s e = absurd (true≢false (sym s))

same_text : OneFrame → (body body' rest rest' : List ℕ) (end end' : SessionEnd) (text text' : List ℕ) → body ≡ body' → rest ≡ rest' → end ≡ end' → Wrote body rest end text
    → Wrote body' rest' end' text' → text ≡ text'
same_text one body body' rest rest' end end' text text' b r e (turns_alone n w) (turns_alone n' w') = w ∙ b ∙ sym w'
same_text one body body' rest rest' end end' text text' b r e (turns_alone n w) (and_refusal is tail refused w') = absurd (n (e ∙ is))
same_text one body body' rest rest' end end' text text' b r e (and_refusal is tail refused w) (turns_alone n' w') = absurd (n' (sym e ∙ is))
same_text one body body' rest rest' end end' text text' b r e (and_refusal is tail refused w) (and_refusal is' tail' refused' w') =
    let tails : tail ≡ tail' = one_refusal one rest tail tail' refused (subst (λ (z : List ℕ). IsRefusal z tail') (sym r) refused') in
    w ∙ ap (λ (z : List ℕ). z ++ tail) b ∙ ap (λ (z : List ℕ). body' ++ z) tails ∙ sym w'

pub undisturbed_sessions_are_alike : OneFrame → OneCall → ReplyReadsNoLaterEntry → UndisturbedSessionsAreAlike
undisturbed_sessions_are_alike one call law = λ names limits seats old old' new new' b left left' end end' turns turns' marks marks' text text' begun x y.
    let xs = x.session in
    let ys = y.session in
    let grow' : AllGrowBy old new' marks' = λ repo. subst (λ (z : List Entry). GrowsBy z (new' repo) (places_in repo marks')) (sym (begun repo)) (y.grow repo) in
    let ends = sound_sessions_end_alike one (ground names limits new seats) (ground names limits new' seats) b left left' end end' turns turns' marks marks' text text'
    x.sound y.sound xs ys in
    let it = same_turns one call law names limits seats old new new' 0 false b turns turns' marks marks' xs.body ys.body xs.closed ys.closed xs.rest ys.rest end end'
    x.room y.room xs.all ys.all x.grow grow' x.memory y.memory
    (said _ _ _ _ _ _ end refl (omega arith) refl (stop_of turns xs.body xs.closed xs.rest left end text x.sound xs.ends))
    (said _ _ _ _ _ _ end' refl (omega arith) refl (stop_of turns' ys.body ys.closed ys.rest left' end' text' y.sound ys.ends)) in
    record {
      same_end = ends.0;
      same_turns = it.all_turns;
      same_marks = it.all_marks;
      same_text = same_text one xs.body ys.body xs.rest ys.rest end end' text text' it.all_text it.all_rest ends.0
          (wrote_of turns xs.body xs.closed xs.rest left end text x.sound xs.ends) (wrote_of turns' ys.body ys.closed ys.rest left' end' text' y.sound ys.ends);
      same_journals = it.all_journals;
    }
