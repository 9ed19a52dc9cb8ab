use Rattle.command_data.proofs.fits.fields_size.Goals as goal

pub returns-in-DeclarePublisher : goal.returns-in-DeclarePublisher
returns-in-DeclarePublisher c = rw c.in-DeclarePublisher.is c.declare_size.ensures

pub returns-in-Publish : goal.returns-in-Publish
returns-in-Publish c = rw c.in-Publish.is c.size_of_two.ensures

pub returns-in-PublishConfirm : goal.returns-in-PublishConfirm
returns-in-PublishConfirm c = rw c.in-PublishConfirm.is c.size_of_two-in-PublishConfirm.ensures

pub returns-in-PublishError : goal.returns-in-PublishError
returns-in-PublishError c = rw c.in-PublishError.is c.size_of_two-in-PublishError.ensures

pub returns-in-QueryPublisherSequence : goal.returns-in-QueryPublisherSequence
returns-in-QueryPublisherSequence c = rw c.in-QueryPublisherSequence.is c.size_of_three.ensures

pub returns-in-SequenceAnswer : goal.returns-in-SequenceAnswer
returns-in-SequenceAnswer c = rw c.in-SequenceAnswer.is c.answer_size.ensures

pub returns-in-DeletePublisher : goal.returns-in-DeletePublisher
returns-in-DeletePublisher c = rw c.in-DeletePublisher.is c.size_of_two-in-DeletePublisher.ensures

pub returns-in-Subscribe : goal.returns-in-Subscribe
returns-in-Subscribe c = rw c.in-Subscribe.is c.subscribe_size.ensures

pub returns-in-Deliver : goal.returns-in-Deliver
returns-in-Deliver c = rw c.in-Deliver.is c.deliver_size.ensures

pub returns-in-Deliver2 : goal.returns-in-Deliver2
returns-in-Deliver2 c = rw c.in-Deliver2.is c.deliver_two_size.ensures

pub returns-in-Credit : goal.returns-in-Credit
returns-in-Credit c = rw c.in-Credit.is c.size_of_two-in-Credit.ensures

pub returns-in-CreditFault : goal.returns-in-CreditFault
returns-in-CreditFault c = rw c.in-CreditFault.is c.size_of_two-in-CreditFault.ensures

pub returns-in-StoreOffset : goal.returns-in-StoreOffset
returns-in-StoreOffset c = rw c.in-StoreOffset.is c.size_of_three-in-StoreOffset.ensures

pub returns-in-QueryOffset : goal.returns-in-QueryOffset
returns-in-QueryOffset c = rw c.in-QueryOffset.is c.size_of_three-in-QueryOffset.ensures

pub returns-in-OffsetAnswer : goal.returns-in-OffsetAnswer
returns-in-OffsetAnswer c = rw c.in-OffsetAnswer.is c.answer_size-in-OffsetAnswer.ensures

pub returns-in-Unsubscribe : goal.returns-in-Unsubscribe
returns-in-Unsubscribe c = rw c.in-Unsubscribe.is c.size_of_two-in-Unsubscribe.ensures

pub returns-in-Plain : goal.returns-in-Plain
returns-in-Plain c = rw c.in-Plain.is c.size_of_two-in-Plain.ensures
