-- A content has one answer.
use Rattle.std.proofs.Common.{◌≡◌, ℕ, List, Option, None, Some, refl, sym, ap, subst, ◌∙◌}
use Rattle.gw_ack.specs.declared.reply.Reply.{Reply}
use Rattle.gw_ack.specs.declared.reply.Reply.TheVariants.{Accept, Refuse, Reject}
use Rattle.gw_er7.specs.declared.fault.ReadFault.{ReadFault}
use Rattle.gw_er7.specs.Faults.{Faulty}
use Rattle.gw_er7.specs.Message.{SegmentValue, IsMessage}
use Rattle.gw_er7.specs.Reading.{Reads}
use Rattle.gw_profile.specs.Shapes.{ProfileValue}
use Rattle.gw_profile.specs.Deterministic.{Name}
use Rattle.gw_validate.specs.declared.breach.Breach.{Breach}
use Rattle.gw_validate.specs.Broken.{Breaks, IsLeast}
use Rattle.gw_validate.specs.Conforming.{Conforms}
use Rattle.gw_stream.specs.Answers.{Answer, IsAnswer, IsReadAs, IsSaid, Message, Validated, readable, unreadable}

-- what the layers below say of a content and a message
pub record Once (p : ProfileValue) (content : List ℕ) : Type 0 where
  pub message : (a b : List SegmentValue) → IsMessage a → IsMessage b → Reads content a → Reads content b → a ≡ b
  pub apart : (a : List SegmentValue) (b : ReadFault) → Reads content a → ¬ (Faulty content b)
  pub least : (m : List SegmentValue) (a b : Breach) → IsLeast p m a → IsLeast p m b → a ≡ b
  pub nothing : (m : List SegmentValue) → Conforms p m → (i : ℕ) (name : Name) (spot : List ℕ) → Breaks p m i name spot → ⊥

one_reply : (p : ProfileValue) (content : List ℕ) (m : List SegmentValue) (r s : Reply) → Once p content → Validated p m r → Validated p m s → r ≡ s
one_reply p content m Accept Accept o x y = refl
one_reply p content m Accept (Refuse b) o x y = absurd (o.nothing m x y.number b.segment _ y.breaks)
one_reply p content m Accept (Reject code) o x y = absurd y
one_reply p content m (Refuse a) Accept o x y = absurd (o.nothing m y x.number a.segment _ x.breaks)
one_reply p content m (Refuse a) (Refuse b) o x y = ap Refuse (o.least m a b x y)
one_reply p content m (Refuse a) (Reject code) o x y = absurd y
one_reply p content m (Reject code) s o x y = absurd x

one_reading : (p : ProfileValue) (content : List ℕ) (a b : Option Message) → Once p content → IsReadAs content a → IsReadAs content b → a ≡ b
one_reading p content _ _ o (unreadable f x) (unreadable g y) = refl
one_reading p content _ _ o (unreadable f x) (readable m lawful reads) = absurd (o.apart m f reads x)
one_reading p content _ _ o (readable m lawful reads) (unreadable g y) = absurd (o.apart m g reads y)
one_reading p content _ _ o (readable m lawful reads) (readable n also again) = ap Some (o.message m n lawful also reads again)

one_said : (p : ProfileValue) (content : List ℕ) (what : Option Message) (r s : Reply) → Once p content → IsSaid (Validated p) what r
    → IsSaid (Validated p) what s → r ≡ s
one_said p content None r s o x y = x ∙ sym y
one_said p content (Some m) r s o x y = one_reply p content m r s o x y

pub one_answer_of : (p : ProfileValue) (stamp content : List ℕ) (number : ℕ) (a b : Answer) → Once p content
    → IsAnswer (Validated p) stamp number content a → IsAnswer (Validated p) stamp number content b → a ≡ b
one_answer_of p stamp content number a b o x y =
    let what : x.what ≡ y.what = one_reading p content x.what y.what o x.is_read y.is_read in
    let said = subst (λ w. IsSaid (Validated p) w x.outcome.reply) what x.settles.said in
    let reply : x.outcome.reply ≡ y.outcome.reply = one_said p content y.what x.outcome.reply y.outcome.reply o said y.settles.said in
    let stamp = x.settles.stamp_is ∙ sym y.settles.stamp_is in
    let same_number = x.settles.number_is ∙ sym y.settles.number_is in
    let code : a.code ≡ b.code = cc in
    let content : a.content ≡ b.content = cc in
    ap (λ k. record { code = k; content = a.content }) code ∙ ap (λ k. record { code = b.code; content = k }) content
