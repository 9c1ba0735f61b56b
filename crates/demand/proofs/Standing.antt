-- The take, as the packets accepted determine it, and what the box answers to a packet. The only file that knows the place rule and
-- what a take keeps.
use mathlib.Core.Path.{◌≡◌, refl, sym, ap, ◌∙◌, subst}
use mathlib.Core.Logic.{◌⊎◌, inl, inr, ⊎_elim}
use mathlib.Core.Bool.{true, false}
use mathlib.Core.List.{List}
use Prim.Native.Nat.{ℕ, ◌+◌, ◌-◌, ◌*◌, ◌%◌, ◌^◌, ◌≤◌, ◌<◌}
use native.Mathlib.Nat.{add-mul, sub-add_cancel, sub_self, le_of_eq}
use native.Mathlib.Decide.{dec_lt}
use native.Mathlib.Omega.{arith}
use lib.ListN.{length}
use Rattle.lists.proofs.Tables.{true_false}
use Rattle.lists.specs.Rules.{FirstBroken}
use Rattle.answers.specs.declared.Answer.{Answer}
use Rattle.answers.specs.declared.Answer.TheVariants.{Shape, Late, Beyond}
use Rattle.answers.specs.Numbers.{number_of}
use Rattle.formats.proofs.Types.{sent_read}
use Rattle.wire_rules.specs.declared.Header.{Header}
use Rattle.wire_rules.specs.Names.{name_of, kept_name, GoodName}
use Rattle.wire_rules.specs.Header.{name_field, header_of}
use Rattle.wire_rules.proofs.Names.{kept_name_is, kept_good_name, kept_length}
use Rattle.take_rules.specs.declared.Take.{Take}
use Rattle.take_rules.specs.declared.Decision.TheVariants.{Ahead}
use Rattle.take_rules.specs.Counter.{newer}
use Rattle.take_rules.specs.Line.{distance}
use Rattle.take_rules.specs.Take.{GoodShape, GoodLine, GoodState, unbegun}
use Rattle.take_rules.proofs.Wraps.{newer_exactly}
use Rattle.take_rules.proofs.Exactly.{line_broken}
use Rattle.take_rules.specs.Follow.{decided, place_of, skipped_of, answer_of, followed_by, OurStream, SameShape, Newer, line_rules, Followable}
use Rattle.cutter_rules.specs.Schedule.{Schedule}
use Rattle.cutter_rules.proofs.Scheduling.{from_rises}
use Rattle.demand.specs.Took.{Took, Joins, hears}
use Rattle.demand.specs.Sender.{Sender}
use Rattle.demand.proofs.Accepting.{Ordered}
use Rattle.demand.proofs.Sends.{read_header, ReadAs, Sends}

-- ---- the take

module _ (x : Sender) where
  -- a begun take: packet k₀ was accepted first, and packet k, the newest, lies at a place
  abbrev begun_with : ℕ → ℕ → ℕ → Take
  begun_with k₀ k place = record {
    who = record { name = kept_name x.header.name; address = x.address };
    begun = true;
    shape = record { rate = x.header.rate; channels = x.header.channels; format = x.header.format };
    line = record { n = x.schedule.count k₀; newest = (x.header.counter + k) % 2 ^ 32; place = place };
  }

  -- where the packets A were accepted
  pub record Stands (A : Took) (t : Take) : Type 0 where
    pub earliest : ℕ
    pub newest : ℕ
    pub is_earliest : A.earliest earliest
    pub is_in : A.taken newest
    pub is_newest : (j : ℕ) → A.taken j → j ≤ newest
    pub sent : newest < x.schedule.packets
    pub is : t ≡ begun_with earliest newest (x.schedule.from newest - x.schedule.from earliest)

  abbrev pub Follows : Took → Take → Type 0
  Follows A t = (((j : ℕ) → A.taken j → ⊥) × (t ≡ unbegun x.header.name x.address)) ⊎ Stands A t

  -- the same packets
  pub follows_same : {A B : Took} {t : Take} → ((j : ℕ) → A.taken j → B.taken j) → ((j : ℕ) → B.taken j → A.taken j)
      → ((j : ℕ) → A.earliest j → B.earliest j) → Follows A t → Follows B t
  follows_same to back same = ⊎_elim
      (λ y. inl ((λ j b. y.0 j (back j b)), y.1))
      (λ st. inr (record {
        earliest = st.earliest;
        newest = st.newest;
        is_earliest = same _ st.is_earliest;
        is_in = to _ st.is_in;
        is_newest = λ j b. st.is_newest j (back j b);
        sent = st.sent;
        is = st.is;
      }))

  -- the name and address that the take keeps, begun or not
  record Ours (t : Take) : Type 0 where
    name : t.who.name ≡ kept_name x.header.name
    address : t.who.address ≡ x.address

  module _ {A : Took} {t : Take} (follows : Follows A t) where
    ours : Ours t
    ours = ⊎_elim (λ y. rw y.1 (record { name = refl; address = refl })) (λ st. rw st.is (record { name = refl; address = refl })) follows

    pub name_short : length x.header.name ≤ 16 → length t.who.name ≤ 16
    name_short l = rw ours.name (omega (arith, kept_length x.header.name l))

    -- a stream that is the take's is the sender's
    pub same_name : {address : ℕ} {d : List ℕ} → OurStream t.who address d → name_of (name_field d) ≡ name_of x.header.name
    same_name o = sym o.our_name ∙ ap name_of ours.name ∙ kept_name_is x.header.name

    pub same_address : {address : ℕ} {d : List ℕ} → OurStream t.who address d → address ≡ x.address
    same_address o = o.our_address ∙ ours.address

-- ---- where a packet goes

-- d of a packet's counter
abbrev away_by : Take → Header → ℕ
away_by t h = distance t.line h.counter h.frames

-- a packet of a begun take that is newer
ahead : (t : Take) (h : Header) → t.begun ≡ true → newer 32 (away_by t h) ≡ true → decided t h ≡ Ahead
ahead t h b n = rw (b, n)

module _ {x : Sender} (w : Sends x) where
  abbrev s : Schedule
  s = x.schedule

  abbrev N : ℕ
  N = x.header.frames

  module _ {A : Took} (o : Ordered A) {t : Take} (st : Stands x A t) (k : ℕ) (l : k < s.packets) where
    earliest_le : st.earliest ≤ st.newest
    earliest_le = o.is_lowest st.earliest st.newest st.is_earliest st.is_in

    size_is : st.newest < k → s.count st.earliest ≡ N
    size_is u = let f = earliest_le in w.equal.full st.earliest (omega arith)

    away_is : st.newest < k → away_by t (read_header x k) ≡ k - st.newest
    away_is u = rw st.is (omega (arith, st.sent, w.few))

    -- packets lie as far apart as their numbers say
    steps : st.newest < k → s.from st.newest + (k - st.newest) * N ≡ s.from k
    steps u =
        let m : st.newest ≤ k = omega arith in
        let e : (k - st.newest) * N + st.newest * N ≡ k * N = rw (← add-mul, sub-add_cancel) in
        omega (arith, w.equal.from_is k l, w.equal.from_is st.newest st.sent)

    decided_is : st.newest < k → decided t (read_header x k) ≡ Ahead
    decided_is u =
        let d = away_is u in
        ahead t (read_header x k) (rw st.is) ((newer_exactly 32 (away_by t (read_header x k))).1 (omega arith, omega (arith, w.few, l)))

    place_is : st.newest < k → place_of t (read_header x k) ≡ s.from k - s.from st.earliest
    place_is u =
        let d = away_is u in
        let e : place_of t (read_header x k) ≡ (s.from st.newest - s.from st.earliest) + away_by t (read_header x k) * N = rw (decided_is u) (rw (st.is, size_is u)) in
        e ∙ rw d (omega (arith, steps u, from_rises w.divides st.earliest st.newest earliest_le st.sent))

    distance_is : away_by t (read_header x k) ≡ ((x.header.counter + k) % 2 ^ 32 + (2 ^ 32 - (x.header.counter + st.newest) % 2 ^ 32)) % 2 ^ 32
    distance_is = rw st.is

    is_newer : Newer t (read_header x k) → st.newest < k
    is_newer n =
        let d = distance_is in
        let b = st.sent in
        let c = w.few in
        let u = n.0 in
        let v = n.1 in
        elim (dec_lt st.newest k) [
          | yes e ↦ e
          | no e ↦ elim (dec_lt k st.newest) [ yes e' ↦ omega arith | no e' ↦ omega arith ]
        ]

  -- ---- what the box answers to packet k, whose bytes are d

  module _ {k : ℕ} {d : List ℕ} (p : ReadAs x k d) (R : ℕ) where
    abbrev l : k < s.packets
    l = p.below

    abbrev header : header_of d ≡ read_header x k
    header = p.header

    names : name_of (kept_name x.header.name) ≡ name_of (name_field d)
    names = sym (ap (λ (y : Header). name_of y.name) header) ∙ kept_name_is (name_field d)

    kept_good : GoodName (kept_name x.header.name)
    kept_good = kept_good_name x.header.name w.short w.formed.named

    -- a fact of the header that was sent is one of the header read
    read : (F : Header → Type 0) → F (read_header x k) → F (header_of d)
    read F = subst F (sym header)

    channels_few : (header_of d).channels ≤ 8
    channels_few = read (λ y. y.channels ≤ 8) w.channels_few

    not_begun : {P : Type 0} → false ≡ true → P
    not_begun e = absurd (true_false (sym e))

    module _ {A : Took} (o : Ordered A) {t : Take} (follows : Follows x A t) where
      -- N of a begun take is a packet's
      frames_few : (st : Stands x A t) → (1 ≤ s.count st.earliest) × (s.count st.earliest ≤ 256)
      frames_few st =
          let b : st.earliest < s.packets = omega (arith, earliest_le o st k l, st.sent) in
          (w.divides.some _ b, omega (arith, w.equal.no_larger _ b, w.formed.frames_few.1))

      shaped : (st : Stands x A t) → GoodShape t.shape × GoodLine t.line
      shaped st =
          let f = w.formed in
          rw st.is
          (record { channels_few = (f.channels_few.0, w.channels_few); rated = f.rated; typed = sent_read _ f.typed }, record { frames_few = frames_few st })

      state : GoodState t
      state =
          let kept : t.begun ≡ true → GoodShape t.shape × GoodLine t.line = λ e. ⊎_elim (λ y. not_begun (rw y.1 at e)) shaped follows in
          record { named = rw (ours x follows).name kept_good; shaped = λ e. (kept e).0; lined = λ e. (kept e).1 }

      our_stream : OurStream t.who x.address d
      our_stream = let our = ours x follows in record { our_name = rw our.name names; our_address = sym our.address }

      -- 13 asks no more of a packet than that it is not longer than the first
      same_shape : (st : Stands x A t) → s.count k ≤ s.count st.earliest → SameShape t (read_header x k)
      same_shape st m = rw st.is (record { same_rate = refl; same_channels = refl; same_format = refl; no_longer = m })

      -- the rules, of the header that was sent
      by_rules : (t.begun ≡ true → SameShape t (read_header x k)) → (t.begun ≡ true → Newer t (read_header x k))
          → place_of t (read_header x k) + s.count k ≤ R → Followable t x.address d R
      by_rules e n f = record {
        good_state = state;
        readable = p.readable;
        ours = our_stream;
        channels_few = channels_few;
        same_shape = read (λ y. t.begun ≡ true → SameShape t y) e;
        is_newer = read (λ y. t.begun ≡ true → Newer t y) n;
        fits = read (λ y. place_of t y + y.frames ≤ R) f;
      }

      pub followed : Joins s R A k → Followable t x.address d R
      followed j = ⊎_elim
          (λ y. by_rules (λ e. not_begun (rw y.1 at e)) (λ e. not_begun (rw y.1 at e)) (rw y.1 (omega (arith, j.fits.alone))))
          (λ st.
          let u : st.newest < k = j.newer st.newest st.is_in in
          let a = away_is o st k l u in
          let b = st.sent in
          by_rules (λ e. same_shape st (omega (arith, size_is o st k l u, w.equal.no_larger k l)))
          (λ e. (omega arith, omega (arith, w.few)))
          (omega (arith, place_is o st k l u, j.fits.behind st.earliest st.is_earliest)))
          follows

      -- ---- refusals

      line_refused : (a : Answer) → (number_of a ≡ 0 → ⊥) → FirstBroken (line_rules t (read_header x k) R) a
          → number_of (answer_of t x.address d R) ≡ number_of a
      line_refused a z f =
          let short = name_short x follows w.short in
          ap number_of (line_broken t x.address d R short state p.readable our_stream channels_few a (λ e. z (ap number_of e))
          (read (λ y. FirstBroken (line_rules t y R) a) f))

      module _ (st : Stands x A t) where
        begun : t.begun ≡ true
        begun = rw st.is

        -- not newer
        pub late_refused : k ≤ st.newest → s.count k ≤ s.count st.earliest → number_of (answer_of t x.address d R) ≡ 14
        late_refused m q =
            line_refused Late (λ z. omega arith)
            (inr ((λ e. same_shape st q), inl (refl, (λ n. omega (arith, is_newer o st k l (n begun), m)))))

        -- longer than the first
        pub longer_refused : s.count st.earliest < s.count k → number_of (answer_of t x.address d R) ≡ 13
        longer_refused q =
            let n : t.line.n ≡ s.count st.earliest = rw st.is in
            line_refused Shape (λ z. omega arith) (inl (refl, (λ e. omega (arith, (e begun).no_longer, n, q))))

        -- newer, and past the end
        pub beyond_refused : st.newest < k → ((s.from k - s.from st.earliest) + s.count k ≤ R → ⊥) → number_of (answer_of t x.address d R) ≡ 15
        beyond_refused u z =
            let a = away_is o st k l u in
            let b = st.sent in
            line_refused Beyond (λ y. omega arith)
            (inr (
              (λ e. same_shape st (omega (arith, size_is o st k l u, w.equal.no_larger k l))),
              inr ((λ e. (omega arith, omega (arith, w.few))), inl (refl, (λ f. z (omega (arith, f, place_is o st k l u))))),
            ))

      -- the first, and longer than the track
      pub first_refused : t ≡ unbegun x.header.name x.address → (s.count k ≤ R → ⊥) → number_of (answer_of t x.address d R) ≡ 15
      first_refused e z =
          let n : t.begun ≡ false = rw e in
          let f : place_of t (read_header x k) ≡ 0 = rw n in
          line_refused Beyond (λ y. omega arith)
          (inr (
            (λ b. not_begun (sym n ∙ b)),
            inr ((λ b. not_begun (sym n ∙ b)), inl (refl, (λ g. z (omega (arith, g, f))))),
          ))

      -- ---- acceptance

      pub skipped_first : t ≡ unbegun x.header.name x.address → skipped_of t (header_of d) ≡ 0
      skipped_first e = rw e

      pub skipped_next : (st : Stands x A t) → st.newest < k → skipped_of t (header_of d) ≡ k - st.newest - 1
      skipped_next st u = read (λ y. skipped_of t y ≡ k - st.newest - 1) (rw (decided_is o st k l u) (rw (away_is o st k l u)))

      pub joined : Followable t x.address d R → Joins s R A k
      joined f =
          let n : t.begun ≡ true → Newer t (read_header x k) = subst (λ (y : Header). t.begun ≡ true → Newer t y) header f.is_newer in
          let z : place_of t (read_header x k) + s.count k ≤ R = subst (λ (y : Header). place_of t y + y.frames ≤ R) header f.fits in
          ⊎_elim
          (λ y. record {
            newer = λ m a. absurd (y.0 m a);
            fits = record { alone = alone_of y.1 z; behind = λ k₀ b. absurd (y.0 k₀ (o.is_taken k₀ b)) };
          })
          (λ (st : Stands x A t).
          let u : st.newest < k = is_newer o st k l (n (rw st.is)) in
          let b : (s.from k - s.from st.earliest) + s.count k ≤ R = omega (arith, z, place_is o st k l u) in
          record {
            newer = λ m a. omega (arith, st.is_newest m a);
            fits = record { alone = omega arith; behind = λ k₀ a. rw (o.is_one k₀ st.earliest a st.is_earliest) b };
          })
          follows
        where
          alone_of : t ≡ unbegun x.header.name x.address → place_of t (read_header x k) + s.count k ≤ R → s.count k ≤ R
          alone_of e z = omega (arith, rw e at z)

      -- an accepted packet is the newest, and lies where the first one puts it
      module _ (heard : ℕ → Type 0) (this : heard k) (only : (m : ℕ) → heard m → m ≡ k) (j : Joins s R A k) where
        abbrev B : Took
        B = hears (Joins s R) A heard

        newest_now : (m : ℕ) → B.taken m → m ≤ k
        newest_now m = ⊎_elim (λ a. omega (arith, j.newer m a)) (λ y. le_of_eq (only m y.0))

        as_begun : (st : Stands x A t) → st.newest < k → followed_by t (read_header x k) ≡ begun_with x st.earliest k (place_of t (read_header x k))
        as_begun st u = rw (decided_is o st k l u) (rw st.is)

        pub next : Stands x B (followed_by t (header_of d))
        next = subst (λ (y : Header). Stands x B (followed_by t y)) (sym header) (⊎_elim
            (λ y. record {
              earliest = k;
              newest = k;
              is_earliest = inr (y.0, this, j);
              is_in = inr (this, j);
              is_newest = newest_now;
              sent = l;
              is = rw (y.1, sub_self);
            })
            (λ (st : Stands x A t).
            let u : st.newest < k = j.newer st.newest st.is_in in
            record {
              earliest = st.earliest;
              newest = k;
              is_earliest = inl st.is_earliest;
              is_in = inr (this, j);
              is_newest = newest_now;
              sent = l;
              is = as_begun st u ∙ ap (begun_with x st.earliest k) (place_is o st k l u);
            })
            follows)

        pub placed : (k₀ : ℕ) → B.earliest k₀ → place_of t (header_of d) ≡ s.from k - s.from k₀
        placed k₀ b = subst (λ (y : Header). place_of t y ≡ s.from k - s.from k₀) (sym header) (⊎_elim
            (λ y. ⊎_elim
            (λ a. absurd (y.0 k₀ (o.is_taken k₀ a)))
            (λ z. rw (y.1, only k₀ z.1, sub_self))
            b)
            (λ (st : Stands x A t). ⊎_elim
            (λ a. rw (o.is_one k₀ st.earliest a st.is_earliest) (place_is o st k l (j.newer st.newest st.is_in)))
            (λ z. absurd (z.0 st.newest st.is_in))
            b)
            follows)
